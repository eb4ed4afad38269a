use Rattle.std.proofs.Common.{ap, subst, sym}
use Rattle.cil_names.specs.Entries.{listed, scoped}
use Rattle.cil_names.specs.PermissionWords.{IsAnswerFor}
use Rattle.cil_names.specs.Resolves.{Permission}
use Rattle.cil_names.proofs.PermissionWordLemmas.{permission_answer}
use Rattle.cil_names.proofs.names.Names.resolve_permission.Goals as goal

pub returns-clause-candidate : goal.returns-clause-candidate
returns-clause-candidate c =
    λ xs entries permissions.
    let value = rw c.entries.ensures.value at c.class_with.ensures.value in
    ap listed (value xs entries permissions)

pub returns-clause-names : goal.returns-clause-names
returns-clause-names c =
    λ xs s entries permissions.
    let value = rw c.entries.ensures.value at c.class_with.ensures.value in
    subst (IsAnswerFor c.args.namespaces.now xs c.args.self.now s (Permission (scoped c.args.namespaces.now c.args.scope.now c.args.class.now) (scoped c.args.namespaces.now c.args.scope.now c.args.permission.now)))
    (sym (value xs entries permissions))
    (permission_answer c.args.namespaces.now c.are_namespaces.ensures xs c.args.self.now entries s (scoped c.args.namespaces.now c.args.scope.now c.args.class.now) (scoped c.args.namespaces.now c.args.scope.now c.args.permission.now))
