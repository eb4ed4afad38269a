use Rattle.std.proofs.Common.{subst, sym}
use Rattle.cil_macros.specs.Items.{items_in, namespaces_in}
use Rattle.cil_names.specs.Shared.{AreShared}
use Rattle.cil_names.specs.Unresolved.{ArePermissions}
use Rattle.cil_tables.specs.CompileRefusal.{ItemsFail}
use Rattle.cil_tables.proofs.CompileLemmas.{clash_first, handed_on}
use Rattle.cil_tables.proofs.compiler.placed_policy.Goals as goal

pub commons_of-requires : goal.commons_of-requires
commons_of-requires c = c.in_ok-names.ensures.0

pub permissions_of-requires-clause-entries : goal.permissions_of-requires-clause-entries
permissions_of-requires-clause-entries c = c.in_ok-names.ensures.0

pub permissions_of-requires-clause-shared : goal.permissions_of-requires-clause-shared
permissions_of-requires-clause-shared c =
    subst (AreShared (namespaces_in c.args.instances.now) c.in_ok-names.names (items_in c.args.instances.now)) (sym c.as_slice.ensures.value) c.in_ok-shared.ensures

pub named_policy-requires : goal.named_policy-requires
named_policy-requires c = record {
  entries = c.in_ok-names.ensures.0;
  apart = c.in_ok-names.ensures.1;
  plain = c.requires c.in_ok-names.names c.in_ok-names.ensures.0;
  permissions =
      subst (ArePermissions (namespaces_in c.args.instances.now) c.in_ok-names.names (items_in c.args.instances.now)) (sym c.as_slice-2.ensures.value) c.in_ok-permissions.ensures.permissions;
  shared = subst (AreShared (namespaces_in c.args.instances.now) c.in_ok-names.names (items_in c.args.instances.now)) (sym c.as_slice-3.ensures.value) c.in_ok-shared.ensures;
}

pub returns-in_err-names-clause-faults : goal.returns-in_err-names-clause-faults
returns-in_err-names-clause-faults c = handed_on (ItemsFail (items_in c.args.instances.now)) _ _ c.from_residual.ensures.1 (clash_first (items_in c.args.instances.now) _ c.in_err-names.ensures)
