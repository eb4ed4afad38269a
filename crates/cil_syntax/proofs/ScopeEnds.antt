-- Tidy scopes end with the global namespace.
use Rattle.std.proofs.Common.{◌≡◌, Bool, true, false, [], ◌∷◌, refl}
use Rattle.std.specs.Prelude.{filter, if◌then◌else◌, not}
use Rattle.std.specs.List.{AllByRecursion}
use Rattle.cil_faults.specs.Namespaces.{Namespace}
use Rattle.cil_syntax.specs.Scopes.{EndsGlobally, Scope, apart, same_space, tidy}

module _ (P : Namespace → Type 0) (p : Namespace → Bool) where
  kept_or_not : (n : Namespace) (rest : Scope) (b : Bool) → P n → AllByRecursion P rest → AllByRecursion P (if b then n ∷ rest else rest)
  kept_or_not n rest true here all = (here, all)
  kept_or_not n rest false here all = all

  kept : (s : Scope) → AllByRecursion P s → AllByRecursion P (filter p s)
  kept [] all = tt
  kept (n ∷ s) all = kept_or_not n (filter p s) (p n) all.0 (kept s all.1)

apart_inner : (s : Scope) → AllByRecursion (λ (n : Namespace). n ≡ [] → ⊥) (apart s)
unfolding apart
apart_inner [] = tt
apart_inner ([] ∷ s) = apart_inner s
apart_inner ((x ∷ n) ∷ s) = ((λ e. let f : x ∷ n ≡ [] = e in cc), kept (λ (m : Namespace). m ≡ [] → ⊥) (λ m. not (same_space m (x ∷ n))) (apart s) (apart_inner s))

pub tidy_ends : (s : Scope) → EndsGlobally (tidy s)
tidy_ends s = record { inner = apart s; are_inner = apart_inner s; is = refl }

-- the global namespace alone
pub alone_ends : EndsGlobally ([] ∷ [])
alone_ends = record { inner = []; are_inner = tt; is = refl }
