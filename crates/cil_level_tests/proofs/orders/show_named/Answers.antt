use Rattle.std.proofs.Common.{subst, sym}
use Rattle.cil_macros.specs.Items.{items_in, namespaces_in}
use Rattle.cil_names.specs.Shared.{AreShared}
use Rattle.cil_names.specs.Unresolved.{ArePermissions}
use Rattle.cil_level_tests.proofs.orders.show_named.Goals as goal

pub permissions_of-requires-clause-shared : goal.permissions_of-requires-clause-shared
permissions_of-requires-clause-shared c =
    subst (AreShared (namespaces_in c.args.instances.now) c.args.names.now (items_in c.args.instances.now)) (sym c.as_slice.ensures.value) c.in-Ok.ensures

pub show_by_names-requires-clause-permissions : goal.show_by_names-requires-clause-permissions
show_by_names-requires-clause-permissions c =
    subst (ArePermissions (namespaces_in c.args.instances.now) c.args.names.now (items_in c.args.instances.now)) (sym c.as_slice-in-Ok-permissions_of.ensures.value) c.in-Ok-permissions_of.ensures.permissions
