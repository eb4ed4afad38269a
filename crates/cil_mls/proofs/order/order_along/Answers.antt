use Rattle.std.proofs.Common.{subst, sym}
use Rattle.cil_mls.specs.OrderSteps.{AreNeighbours, HasAll}
use Rattle.cil_mls.proofs.OrderLemmas.{fixed_by, no_order, not_fixed}
use Rattle.cil_mls.proofs.order.order_along.Goals as goal

pub returns-then-not-branch : goal.returns-then-not-branch
returns-then-not-branch c =
    no_order c.args.edges.now _ c.in_ok-order.field-0.order.items c.args.count c.in_ok-order.ensures.order c.in_ok-need.ensures c.requires.within
    (λ all. let t = c.in_ok-has_all.ensures.1 (subst (HasAll c.args.count) (sym c.as_slice.ensures.value) all) in let f = c.if-not-branch.true in cc)

pub returns-then-not-are_joined : goal.returns-then-not-are_joined
returns-then-not-are_joined c =
    not_fixed c.args.edges.now _ c.in_ok-order.field-0.order.items c.args.count c.in_ok-order.ensures.order c.in_ok-need.ensures
    (subst (HasAll c.args.count) c.as_slice.ensures.value (c.in_ok-has_all.ensures.0 c.if-not-branch.false))
    (λ all. let t = c.are_joined.ensures.1 (subst (AreNeighbours c.args.edges.now) (sym c.as_slice-2.ensures.value) all) in let f = c.if-not-are_joined.true in cc)

pub returns : goal.returns
returns c =
    fixed_by c.args.edges.now _ c.in_ok-order.field-0.order.items c.args.count c.in_ok-order.ensures.order c.in_ok-need.ensures
    (subst (HasAll c.args.count) c.as_slice.ensures.value (c.in_ok-has_all.ensures.0 c.if-not-branch.false))
    (subst (AreNeighbours c.args.edges.now) c.as_slice-2.ensures.value (c.are_joined.ensures.0 c.if-not-are_joined.false))
