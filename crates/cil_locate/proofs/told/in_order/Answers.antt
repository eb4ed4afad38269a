use Rattle.std.proofs.Common.{sym, subst}
use Rattle.std.specs.Prelude.{Contains}
use Rattle.std.specs.Ordering.{eq_by_cmp}
use Rattle.std.proofs.lemmas.List.Filters.{dedup_is}
use Rattle.cil_base.specs.Lists.{Lists}
use Rattle.cil_base.specs.Sorted.{lists_sorted}
use Rattle.cil_locate.specs.Order.{one_told, told_cmp, told_total}
use Rattle.cil_locate.proofs.told.in_order.Goals as goal

pub returns : goal.returns
returns c =
    subst (Lists told_cmp (Contains c.args.told.items)) (sym (dedup_is (eq_by_cmp told_cmp) _ _ c.dedup.ensures.filtered))
    (lists_sorted told_cmp told_total one_told _ _ c.sort_unstable.ensures.permutation c.sort_unstable.ensures.sorted)
