-- The scopes that were filled last, before any is.
use Rattle.std.proofs.Common.{◌≡◌, sym, subst}
use Rattle.std.specs.Prelude.{IfSome, None, Option, Some, ℕ}
use Rattle.cil_macros.specs.Items.{Kept, all_placed, namespaces_in, scope_by}
use Rattle.cil_macros.specs.Walks.{IsScope}
use Rattle.cil_words.specs.Scopes.{AreScopes}
use Rattle.cil_words.specs.declared.scopes.Scopes.{Scopes}

pub none_filled : (i : Kept) (s : Scopes) → s.own.of ≡ None → s.other.of ≡ None → AreScopes i s
none_filled i s own other = record {
  own = subst (λ (o : Option ℕ). IfSome o (λ k. IsScope (namespaces_in i) (scope_by (all_placed i) (Some k)) s.own.scope)) (sym own) tt;
  other = subst (λ (o : Option ℕ). IfSome o (λ k. IsScope (namespaces_in i) (scope_by (all_placed i) (Some k)) s.other.scope)) (sym other) tt;
}
