use Rattle.cil_faults.proofs.RefusalLemmas.{fails_alike, refused}
use Rattle.cil_attrs.specs.macros.Items.{items_in}
use Rattle.cil_attrs.specs.known.Known.{enabled_in}
use Rattle.cil_mls.specs.OrderFaults.{AreOrders, OrderFault}
use Rattle.cil_mls.specs.OrderParts.{JudgedFault}
use Rattle.cil_mls.proofs.OrderFaultLemmas.{judged_back, judged_there}
use Rattle.cil_mls.proofs.ordered.orders.Goals as goal

pub returns-in_err-rows : goal.returns-in_err-rows
returns-in_err-rows c =
    let xs = items_in c.args.instances.now in
    let s = enabled_in c.args.known.now in
    refused (AreOrders xs s c.args.sections.now.sensitivities.items c.args.sections.now.categories.items) (OrderFault xs s) _ _ c.from_residual.ensures.1
    (fails_alike (JudgedFault xs s) (OrderFault xs s) (judged_there xs s) (judged_back xs s) _ c.in_err-rows.ensures)

pub returns : goal.returns
returns c =
    let xs = items_in c.args.instances.now in
    let s = enabled_in c.args.known.now in
    let all = c.in_ok-rows.ensures in (
      record { of_sensitivities = all.0.0.0; of_categories = all.0.0.1; few_sensitivities = all.0.1.1.0.0; few_categories = all.0.1.1.0.1; on = all.0.1.0 },
      λ f o. all.1 f (judged_back xs s f o),
    )
