use Rattle.std.proofs.Common.{subst, sym}
use Rattle.std.proofs.lemmas.Result.{IfOk-weaker}
use Rattle.cil_macros.specs.Items.{all_placed, namespaces_in, scope_by}
use Rattle.cil_macros.specs.Walks.{IsScope}
use Rattle.cil_declare.proofs.content.is_same_scope.Goals as goal

pub returns : goal.returns
returns c =
    let i = c.args.instances.now in
    let scope = scope_by (all_placed i) c.args.a in
    IfOk-weaker c.has_scope.result _ _ (λ same tells. tells scope (subst (IsScope (namespaces_in i) scope) (sym c.as_slice.ensures) c.in_ok-one.ensures)) c.has_scope.ensures
