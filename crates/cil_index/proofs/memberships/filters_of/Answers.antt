use Rattle.std.proofs.Common.{[], subst, ◌∙◌}
use Rattle.cil_index.specs.Memberships.{IsFilter}
use Rattle.std.proofs.lemmas.List.{get_or_default}
use Rattle.cil_index.proofs.MembershipLemmas.{filters_all, filters_more, no_filters}
use Rattle.cil_index.proofs.memberships.filters_of.Goals as goal

pub loop-numbers-init : goal.loop-numbers-init
loop-numbers-init c = no_filters c.args.lists.now _ c.in_ok-filters.ensures.items

pub loop-numbers-preserved : goal.loop-numbers-preserved
loop-numbers-preserved c =
    filters_more c.args.lists.now c.loop-numbers.numbers-index _ c.filter_of.result _ _ (c.numbers-item.is ∙ get_or_default c.args.lists.now c.loop-numbers.numbers-index _ [] c.loop-numbers-test.true) (subst (λ l. IsFilter l c.filter_of.result) c.as_slice.ensures c.filter_of.ensures) c.in_ok-push.ensures.items
    c.loop-numbers.invariant

pub returns : goal.returns
returns c = filters_all c.args.lists.now c.loop-numbers.numbers-index _ c.loop-numbers-test.false c.loop-numbers.auto.numbers-index-end c.loop-numbers.invariant
