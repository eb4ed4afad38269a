use Rattle.std.proofs.Common.{subst, sym}
use Rattle.cil_macros.specs.Items.{items_in}
use Rattle.cil_known.specs.Known.{enabled_in}
use Rattle.cil_tables.specs.levels_crate.Held.{HoldValues}
use Rattle.cil_mls.specs.OrderFaults.{AreOrders}
use Rattle.cil_level_tests.proofs.orders.show_values.Goals as goal

pub permitted-requires-clause-held : goal.permitted-requires-clause-held
permitted-requires-clause-held c =
    let xs = items_in c.args.instances.now in
    let known = c.args.known.now in
    subst
    (λ row. (o : AreOrders xs (enabled_in known) c.args.sections.now.sensitivities.items c.args.sections.now.categories.items c.args.orders.now)
    → HoldValues known xs o.of_categories.row row)
    (sym c.as_slice.ensures.value) c.in-Ok.ensures
