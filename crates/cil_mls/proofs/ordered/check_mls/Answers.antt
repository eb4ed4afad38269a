use Rattle.cil_attrs.specs.macros.Items.{items_in}
use Rattle.cil_attrs.specs.known.Known.{enabled_in}
use Rattle.cil_mls.proofs.OrderFaultLemmas.{both_told, not_on, only_on}
use Rattle.cil_mls.proofs.ordered.check_mls.Goals as goal

pub returns-then-not-is_switched : goal.returns-then-not-is_switched
returns-then-not-is_switched c = not_on (items_in c.args.instances.now) (enabled_in c.args.known.now) _ c.is_switched.ensures c.if-not-is_switched.true

pub returns-then-is_switched : goal.returns-then-is_switched
returns-then-is_switched c =
    both_told (items_in c.args.instances.now) (enabled_in c.args.known.now) _ _ c.is_switched.ensures c.is_switched-2.ensures c.if-not-is_switched.false c.if-is_switched.true _ c.policy_fault.ensures

pub returns : goal.returns
returns c = only_on (items_in c.args.instances.now) (enabled_in c.args.known.now) _ _ c.is_switched.ensures c.is_switched-2.ensures c.if-not-is_switched.false c.if-is_switched.false
