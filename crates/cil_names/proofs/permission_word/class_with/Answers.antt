use Rattle.std.proofs.Common.{sym}
use Rattle.cil_names.specs.Entries.{scoped}
use Rattle.cil_names.proofs.PermissionWordLemmas.{class_rises, class_within}
use Rattle.cil_names.proofs.permission_word.class_with.Goals as goal

pub with_permission-requires : goal.with_permission-requires
with_permission-requires c =
    class_rises c.args.namespaces.now c.args.entries.now c.args.permissions.now (scoped c.args.namespaces.now c.args.scope.now c.args.class.now) c.class_of-found.result c.class_of-found.ensures

pub returns-clause-value : goal.returns-clause-value
returns-clause-value c = λ xs entries permissions.
    c.with_permission.ensures.value c.args.namespaces.now c.args.entries.now c.args.permissions.now (scoped c.args.namespaces.now c.args.scope.now c.args.class.now)
    (scoped c.args.namespaces.now c.args.scope.now c.args.permission.now) xs c.class_of-found.ensures (sym c.as_slice.ensures) entries permissions

pub returns-clause-within : goal.returns-clause-within
returns-clause-within c =
    class_within c.args.namespaces.now c.args.entries.now c.args.permissions.now (scoped c.args.namespaces.now c.args.scope.now c.args.class.now) c.class_of-found.result c.class_of-found.ensures
    c.with_permission.result c.with_permission.ensures.entry
