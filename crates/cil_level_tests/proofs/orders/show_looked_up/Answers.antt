use Rattle.std.proofs.Common.{subst, sym}
use Rattle.cil_macros.specs.Items.{items_in}
use Rattle.cil_names.specs.Entries.{is_in}
use Rattle.cil_known.specs.Known.{AreKnown}
use Rattle.cil_known.specs.Numbers.{AreApart, AreNumbers, names_of}
use Rattle.cil_level_tests.proofs.orders.show_looked_up.Goals as goal

pub show_orders-requires-clause-namespaces : goal.show_orders-requires-clause-namespaces
show_orders-requires-clause-namespaces c = c.requires.namespaces

pub show_orders-requires-clause-table : goal.show_orders-requires-clause-table
show_orders-requires-clause-table c = c.requires.table

pub show_orders-requires-clause-known : goal.show_orders-requires-clause-known
show_orders-requires-clause-known c =
    let known : AreKnown c.args.lookup.now.namespaces.now (items_in c.args.instances.now) c.args.lookup.now.names.now (is_in c.args.lookup.now.enabled.now) (names_of c.in-Ok.numbering.sections) c.as_slice.result.now c.args.permissions.now =
    record {
      namespaces = c.are_namespaces.ensures;
      entries = c.requires.entries;
      numbered = subst (AreNumbers c.args.lookup.now.namespaces.now c.args.lookup.now.names.now (is_in c.args.lookup.now.enabled.now) (names_of c.in-Ok.numbering.sections)) (sym c.as_slice.ensures.value) c.in-Ok.ensures.numbers;
      permissions = c.requires.permissions;
    } in
    known

pub show_orders-requires-clause-apart : goal.show_orders-requires-clause-apart
show_orders-requires-clause-apart c = subst (AreApart c.args.lookup.now.names.now (is_in c.args.lookup.now.enabled.now)) (sym c.as_slice.ensures.value) (c.in-Ok.ensures.apart c.requires.plain)
