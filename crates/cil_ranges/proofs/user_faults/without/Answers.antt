use Rattle.std.proofs.Common.{None, ◌+◌, ◌++◌, ◌∷◌, [], ◌∙◌, ap, get_or, refl, subst, sym}
use Rattle.cil_ranges.proofs.UserFaultLemmas.{AreWithoutUpTo, all_flagged, is_none_by, none_flagged, one_flagged}
use Rattle.cil_ranges.proofs.user_faults.without.Goals as goal

pub loop-range-init : goal.loop-range-init
loop-range-init c = none_flagged c.args.ranges.now c.new-flags.result.items c.new-flags.ensures.items

pub loop-range-preserved : goal.loop-range-preserved
loop-range-preserved c =
    let n = c.loop-range.range-index in
    let flags = c.loop-range.flags.items in
    subst (AreWithoutUpTo c.args.ranges.now (n + 1)) (sym (c.in_ok-push.ensures.items ∙ ap (λ b. flags ++ b ∷ []) (is_none_by (get_or c.args.ranges.now n None) c.is_none.result c.is_none.ensures)))
    (one_flagged c.args.ranges.now n flags None (get_or c.args.ranges.now n None) c.loop-range-test.true refl c.loop-range.invariant)

pub returns : goal.returns
returns c = all_flagged c.args.ranges.now c.loop-range.range-index c.loop-range.flags.items c.loop-range-test.false c.loop-range.invariant
