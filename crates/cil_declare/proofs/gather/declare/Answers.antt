use Rattle.std.proofs.Common.{sym, subst}
use Rattle.std.specs.List.Sorted.{IsSortedByKey}
use Rattle.cil_blocks.specs.Namespaces.{AreNamespaces}
use Rattle.cil_declare.specs.Rows.{AreAllRows, row_key}
use Rattle.cil_names.specs.Entries.{by_name_cmp}
use Rattle.cil_declare.proofs.DoneLemmas.{sorted_all}
use Rattle.cil_declare.proofs.gather.declare.Goals as goal

pub declared_by-requires-clause-namespaces : goal.declared_by-requires-clause-namespaces
declared_by-requires-clause-namespaces c = subst AreNamespaces c.namespaces.ensures.value c.namespaces.ensures.once

pub declared_by-requires-clause-rows : goal.declared_by-requires-clause-rows
declared_by-requires-clause-rows c =
    subst (AreAllRows c.args.instances.now) (sym c.as_slice.ensures.value)
    (sorted_all c.args.instances.now _ _ c.sorted_rows-rows.ensures.same c.in_ok-rows_of.ensures)

pub declared_by-requires-clause-sorted : goal.declared_by-requires-clause-sorted
declared_by-requires-clause-sorted c = subst (IsSortedByKey row_key by_name_cmp) (sym c.as_slice.ensures.value) c.sorted_rows-rows.ensures.sorted
