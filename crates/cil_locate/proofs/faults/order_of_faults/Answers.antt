use Rattle.std.proofs.Common.{◌∙◌, ◌∷◌, ◌++◌, [], ap, length, subst}
use Rattle.std.specs.Prelude.{Contains}
use Rattle.cil_base.specs.Lists.{Lists}
use Rattle.cil_locate.specs.Located.{key_of}
use Rattle.cil_locate.specs.Order.{told_cmp}
use Rattle.cil_locate.proofs.OrderLemmas.{all_numbered, none_numbered, numbered_more}
use Rattle.cil_locate.proofs.faults.order_of_faults.Goals as goal

pub loop-fault-init : goal.loop-fault-init
loop-fault-init c = c.in_ok-told.ensures.items ∙ none_numbered (key_of c.args.origins.now) c.args.faults.now

pub loop-fault-preserved : goal.loop-fault-preserved
loop-fault-preserved c =
    numbered_more (key_of c.args.origins.now) c.args.faults.now _ _ c.loop-fault.fault-index c.fault-item.result c.loop-fault-test.true c.fault-item.is
    c.loop-fault.invariant
    (c.in_ok-push_told.ensures ∙ ap (λ o. c.loop-fault.told.items ++ record { origin = o; at = c.fault-item.result.at; number = length c.loop-fault.told.items } ∷ []) c.origin_of_fault.ensures)

pub returns : goal.returns
returns c =
    subst (λ all. Lists told_cmp (Contains all) c.in_order.result.items)
    (all_numbered (key_of c.args.origins.now) c.args.faults.now _ c.loop-fault.fault-index c.loop-fault-test.false c.loop-fault.invariant) c.in_order.ensures
