use Rattle.std.proofs.Common.{get_or, refl}
use Rattle.cil_base.specs.Places.{contains_at}
use Rattle.cil_blocks.proofs.opened.has_mark.Goals as goal

pub is_mark_at-requires-clause-within : goal.is_mark_at-requires-clause-within
is_mark_at-requires-clause-within c =
    let ks = c.args.numbers.now in
    let i = c.loop-number.number-index in
    c.requires.within (get_or ks i 0) (contains_at ks i (get_or ks i 0) 0 c.loop-number-test.true refl)
