use Rattle.std.proofs.Common.{arith}
use Rattle.cil_mls.proofs.WordLemmas.{between_is}
use Rattle.cil_mls.proofs.words.bits_between.Goals as goal

pub returns : goal.returns
returns c = λ k l. between_is c.args.first c.args.end k (omega (arith, c.if-first-end.false)) c.requires l
