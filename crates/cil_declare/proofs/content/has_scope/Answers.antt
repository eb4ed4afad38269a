use Rattle.std.proofs.Common.{refl, subst, sym}
use Rattle.cil_blocks.specs.Namespaces.{AreNamespaces}
use Rattle.cil_declare.proofs.ContentLemmas.{tells_of}
use Rattle.cil_declare.proofs.ScopeLemmas.{scopes_tell}
use Rattle.cil_declare.proofs.content.has_scope.Goals as goal

pub returns : goal.returns
returns c = λ scope is.
    scopes_tell _ (subst AreNamespaces c.namespaces.ensures.value c.namespaces.ensures.once) _ _ _ _ _ is c.in_ok-other.ensures (tells_of _ _ _ _ _ refl (sym c.as_slice.ensures) c.is_same_list.ensures)
