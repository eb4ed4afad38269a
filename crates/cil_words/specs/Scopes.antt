-- The scopes that were filled last. No other crate needs these words.
use Rattle.std.specs.Prelude.{IfSome, Some}
use Rattle.cil_macros.specs.Items.{Kept, all_placed, namespaces_in, scope_by}
use Rattle.cil_macros.specs.Walks.{IsScope}
use Rattle.cil_words.specs.declared.scopes.LastScope.{LastScope}
use Rattle.cil_words.specs.declared.scopes.Scopes.{Scopes}

-- where a scope was filled, it is that of the instance at this place
abbrev pub IsLast : Kept → LastScope → Type 0
IsLast i last = IfSome last.of (λ k. IsScope (namespaces_in i) (scope_by (all_placed i) (Some k)) last.scope)

pub record AreScopes (i : Kept) (s : Scopes) : Type 0 where
  pub own : IsLast i s.own
  pub other : IsLast i s.other
