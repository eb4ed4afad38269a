use Rattle.std.proofs.Common.{◌∙◌}
use Rattle.std.proofs.lemmas.List.{get_or_default}
use Rattle.cil_index.proofs.MembershipLemmas.{added_all, added_more, at_most_added, none_added}
use Rattle.cil_index.proofs.memberships.add_set.Goals as goal

pub loop-of_type-init : goal.loop-of_type-init
loop-of_type-init c = none_added c.args.lists.now.items c.args.number

pub add_to-requires : goal.add_to-requires
add_to-requires c = at_most_added c.args.lists.now.items c.loop-of_type.lists.items _ c.args.number c.requires c.loop-of_type.invariant

pub loop-of_type-preserved : goal.loop-of_type-preserved
loop-of_type-preserved c =
    added_more c.args.lists.now.items c.loop-of_type.lists.items c.add_to.new.lists.items c.deref-of_type-items.result.now c.loop-of_type.of_type-index _ c.args.number c.loop-of_type-test.true
    (get_or_default _ _ _ _ c.loop-of_type-test.true) c.loop-of_type.invariant c.in_ok-add_to.ensures

pub returns : goal.returns
returns c =
    added_all c.args.lists.now.items c.loop-of_type.lists.items c.deref-of_type-items.result.now c.args.set.now c.loop-of_type.of_type-index c.args.number c.loop-of_type-test.false
    (c.deref-of_type-items.ensures.value ∙ c.in_ok-types.ensures) c.loop-of_type.invariant
