-- Whether one of a list is so, as a loop from the first on finds it; and what holds of a result of which two facts are known.
use Rattle.std.proofs.Common.{◌≡◌, ℕ, ◌+◌, ◌<◌, ◌≤◌, Bool, true, false, ◌||◌, List, length, get_or, drop, sym, ◌∙◌, ap}
use Rattle.std.specs.Prelude.{IfOk, Result, Ok, Err}
use Rattle.std.specs.List.{list_any}
use Rattle.std.proofs.lemmas.List.{drop_all}
use Rattle.cil_base.specs.Places.{drop_at}

module _ {X : Type 0} (f : X → Bool) (xs : List X) where
  -- none before a place is
  abbrev pub IsLeft : ℕ → Type 0
  IsLeft i = list_any f xs ≡ list_any f (drop i xs)

  module _ (i : ℕ) (x : X) (within : i < length xs) (is : x ≡ get_or xs i x) (so : IsLeft i) where
    here : list_any f xs ≡ (f x || list_any f (drop (i + 1) xs))
    here = so ∙ ap (list_any f) (drop_at xs i x x within is)

    pub one_not : f x ≡ false → IsLeft (i + 1)
    one_not e = here ∙ ap (λ b. b || list_any f (drop (i + 1) xs)) e

    pub one_is : f x ≡ true → true ≡ list_any f xs
    one_is e = sym (here ∙ ap (λ b. b || list_any f (drop (i + 1) xs)) e)

  pub none_is : (i : ℕ) → length xs ≤ i → IsLeft i → false ≡ list_any f xs
  none_is i over so = sym (so ∙ ap (list_any f) (drop_all i xs over))

pub both_ok : {X E : Type 0} (P Q R : X → Type 0) (r : Result X E) → ((x : X) → P x → Q x → R x) → IfOk r P → IfOk r Q → IfOk r R
both_ok P Q R (Ok x) onward p q = onward x p q
both_ok P Q R (Err e) onward p q = p
