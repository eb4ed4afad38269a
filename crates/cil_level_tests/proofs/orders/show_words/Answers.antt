use Rattle.std.proofs.Common.{List, map, subst, sym}
use Rattle.cil_blocks.specs.declared.namespaces.Space.{Space}
use Rattle.cil_macros.specs.Items.{items_in}
use Rattle.cil_names.specs.Entries.{AreEntries, is_in}
use Rattle.cil_known.specs.Numbers.{ArePlainNames}
use Rattle.cil_names.specs.PermissionWords.{meanings}
use Rattle.cil_names.specs.Rows.{IsTableOf}
use Rattle.cil_names.specs.Unresolved.{ArePermissions}
use Rattle.cil_level_tests.proofs.orders.show_words.Goals as goal

pub show_looked_up-requires-clause-namespaces : goal.show_looked_up-requires-clause-namespaces
show_looked_up-requires-clause-namespaces c = c.namespaces.ensures.value

pub show_looked_up-requires-clause-entries : goal.show_looked_up-requires-clause-entries
show_looked_up-requires-clause-entries c = subst (λ (z : List Space). AreEntries z (items_in c.args.instances.now) c.args.names.now) (sym c.namespaces.ensures.value) c.requires.entries

pub show_looked_up-requires-clause-permissions : goal.show_looked_up-requires-clause-permissions
show_looked_up-requires-clause-permissions c =
    subst (λ (z : List Space). ArePermissions z c.args.names.now (items_in c.args.instances.now) c.args.permissions.now) (sym c.namespaces.ensures.value) c.requires.permissions

pub show_looked_up-requires-clause-plain : goal.show_looked_up-requires-clause-plain
show_looked_up-requires-clause-plain c = subst (λ (z : List Space). ArePlainNames z c.args.names.now) (sym c.namespaces.ensures.value) c.requires.plain

pub show_looked_up-requires-clause-table : goal.show_looked_up-requires-clause-table
show_looked_up-requires-clause-table c =
    subst (λ (z : List Space). IsTableOf (map (meanings z c.args.names.now c.args.permissions.now (is_in c.args.enabled.now)) (items_in c.args.instances.now)) c.args.words.now)
    (sym c.namespaces.ensures.value) c.requires.table
