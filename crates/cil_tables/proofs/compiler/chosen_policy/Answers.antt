use Rattle.std.proofs.Common.{List, inr, map, subst, sym}
use Rattle.cil_blocks.specs.declared.namespaces.Space.{Space}
use Rattle.cil_faults.specs.declared.failure.Failure.TheVariants.{NoMemory}
use Rattle.cil_macros.specs.Items.{items_in}
use Rattle.cil_names.specs.Entries.{AreEntries, is_in}
use Rattle.cil_known.specs.Numbers.{ArePlainNames}
use Rattle.cil_names.specs.PermissionWords.{meanings}
use Rattle.cil_names.specs.Rows.{IsTableOf}
use Rattle.cil_names.specs.Unresolved.{ArePermissions}
use Rattle.cil_tables.specs.CompileRefusal.{ItemsFail}
use Rattle.cil_tables.proofs.CompileLemmas.{handed_on, later_first}
use Rattle.cil_tables.proofs.compiler.chosen_policy.Goals as goal

pub tables_of-requires-clause-namespaces : goal.tables_of-requires-clause-namespaces
tables_of-requires-clause-namespaces c = c.namespaces.ensures.value

pub tables_of-requires-clause-shared : goal.tables_of-requires-clause-shared
tables_of-requires-clause-shared c = c.requires.named.shared

pub tables_of-requires-clause-entries : goal.tables_of-requires-clause-entries
tables_of-requires-clause-entries c = subst (λ (z : List Space). AreEntries z (items_in c.args.instances.now) c.args.names.now) (sym c.namespaces.ensures.value) c.requires.named.entries

pub tables_of-requires-clause-permissions : goal.tables_of-requires-clause-permissions
tables_of-requires-clause-permissions c =
    subst (λ (z : List Space). ArePermissions z c.args.names.now (items_in c.args.instances.now) c.args.permissions.now) (sym c.namespaces.ensures.value) c.requires.named.permissions

pub tables_of-requires-clause-plain : goal.tables_of-requires-clause-plain
tables_of-requires-clause-plain c = subst (λ (z : List Space). ArePlainNames z c.args.names.now) (sym c.namespaces.ensures.value) c.requires.named.plain

pub tables_of-requires-clause-table : goal.tables_of-requires-clause-table
tables_of-requires-clause-table c =
    subst (λ (z : List Space). IsTableOf (map (meanings z c.args.names.now c.args.permissions.now (is_in c.args.chosen.enabled)) (items_in c.args.instances.now)) c.args.words.now)
    (sym c.namespaces.ensures.value) c.requires.table

pub tables_of-requires-clause-clashes : goal.tables_of-requires-clause-clashes
tables_of-requires-clause-clashes c = c.requires.named.apart

pub lines_of-requires : goal.lines_of-requires
lines_of-requires c = c.requires.chosen

pub returns-in_err-tables-clause-faults : goal.returns-in_err-tables-clause-faults
returns-in_err-tables-clause-faults c =
    handed_on (ItemsFail (items_in c.args.instances.now)) _ _ c.from_residual.ensures.1
    (later_first (items_in c.args.instances.now) c.requires.named.apart (is_in c.args.chosen.enabled) c.requires.chosen.greatest c.requires.chosen.words _ c.in_err-tables.ensures.faults)

pub returns-in_err-lines-clause-faults : goal.returns-in_err-lines-clause-faults
returns-in_err-lines-clause-faults c = handed_on (ItemsFail (items_in c.args.instances.now)) _ NoMemory c.from_residual-in_err-lines.ensures.1 tt

pub returns-clause-compiled : goal.returns-clause-compiled
returns-clause-compiled c = record {
  enabled = is_in c.args.chosen.enabled;
  greatest = c.requires.chosen.greatest;
  apart = c.requires.named.apart;
  no_faults = inr (c.requires.chosen.words, c.in_ok-tables.ensures.tables.1);
  table = c.in_ok-tables.ensures.tables.0;
  optionals = c.in_ok-lines.ensures.optionals;
  right = c.requires.chosen.right;
  first = c.requires.chosen.first;
  reasons = c.in_ok-lines.ensures.reasons;
}
