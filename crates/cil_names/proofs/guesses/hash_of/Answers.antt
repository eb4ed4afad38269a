use Rattle.std.proofs.Common.{arith, sym}
use Rattle.std.proofs.lemmas.List.{length-take-le}
use Rattle.cil_names.proofs.guesses.hash_of.Goals as goal

pub slice_bounds-hashed-end : goal.slice_bounds-hashed-end
slice_bounds-hashed-end c = let long = c.if-length-le-LONGEST_HASHED.false in sym (length-take-le 32 c.args.name.now (omega (arith, long)))
