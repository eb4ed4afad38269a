-- Searches in lists: whether some item passes, what a search finds, and what a filter keeps.
use Rattle.std.proofs.Common.{◌≡◌, Bool, true, false, ◌||◌, if◌then◌else◌, List, [], ◌∷◌, refl, sym, ◌∙◌, ap, subst, inl, inr}
use Rattle.std.specs.Prelude.{Contains, Some, find, filter, map}
use Rattle.std.specs.List.{list_any}
use Rattle.std.proofs.lemmas.Bool.{or_cases}
use Rattle.cil_base.specs.Lists.{contains_here, contains_later, contains_cases, contains_none}
use Rattle.cil_base.specs.Places.{none_some, some_same}

pub or_second : (a b : Bool) → b ≡ true → (a || b) ≡ true
or_second true b h = refl
or_second false b h = h

-- two truths that follow from each other are one
pub same_truth : (a b : Bool) → (a ≡ true → b ≡ true) → (b ≡ true → a ≡ true) → a ≡ b
same_truth true b there back = sym (there refl)
same_truth false true there back = back refl
same_truth false false there back = refl

pub any_map : {X Y : Type 0} (f : X → Y) (p : Y → Bool) (xs : List X) → list_any p (map f xs) ≡ list_any (λ x. p (f x)) xs
any_map f p [] = refl
any_map f p (x ∷ xs) = ap (λ b. p (f x) || b) (any_map f p xs)

module _ {X : Type 0} (p : X → Bool) where
  pub any_from : (xs : List X) (x : X) → Contains xs x → p x ≡ true → list_any p xs ≡ true
  any_from [] x c e = absurd (contains_none x c)
  any_from (y ∷ ys) x c e =
      elim (contains_cases x y ys c) [
        | inl s ↦ ap (λ b. b || list_any p ys) (ap p s ∙ e)
        | inr d ↦ or_second (p y) (list_any p ys) (any_from ys x d e)
      ]

  pub any_true : (xs : List X) → list_any p xs ≡ true → (x : X) × Contains xs x × (p x ≡ true)
  any_true [] e = absurd (let f : false ≡ true = e in cc)
  any_true (x ∷ xs) e =
      elim (or_cases (p x) (list_any p xs) e) [
        | inl h ↦ (x, contains_here x xs, h)
        | inr h ↦ let r = any_true xs h in (r.0, contains_later r.0 x xs r.1, r.2)
      ]

module _ {X : Type 0} where
  module _ (p : X → Bool) where
    -- it is in the list, and passes
    abbrev pub IsFound : List X → X → Type 0
    IsFound xs x = Contains xs x × (p x ≡ true)

    found_step : (y : X) (ys : List X) (b : Bool) → p y ≡ b → ((x : X) → find p ys ≡ Some x → IsFound ys x) → (x : X)
        → (if b then Some y else find p ys) ≡ Some x → IsFound (y ∷ ys) x
    found_step y ys true is rest x e =
        let same : y ≡ x = some_same y x e in subst (IsFound (y ∷ ys)) same (contains_here y ys, is)
    found_step y ys false is rest x e = let r = rest x e in (contains_later x y ys r.0, r.1)

    pub found_is : (xs : List X) (x : X) → find p xs ≡ Some x → IsFound xs x
    found_is [] x e = absurd (none_some x e)
    found_is (y ∷ ys) x e = found_step y ys (p y) refl (found_is ys) x e

    kept_step : (y : X) (ys : List X) (b : Bool) → p y ≡ b → ((x : X) → Contains (filter p ys) x → IsFound ys x) → (x : X)
        → Contains (if b then y ∷ filter p ys else filter p ys) x → IsFound (y ∷ ys) x
    kept_step y ys true is rest x c =
        elim (contains_cases x y (filter p ys) c) [
          | inl e ↦ subst (IsFound (y ∷ ys)) e (contains_here y ys, is)
          | inr d ↦ let r = rest x d in (contains_later x y ys r.0, r.1)
        ]
    kept_step y ys false is rest x c = let r = rest x c in (contains_later x y ys r.0, r.1)

    pub kept_is : (xs : List X) (x : X) → Contains (filter p xs) x → IsFound xs x
    kept_is [] x c = absurd (contains_none x c)
    kept_is (y ∷ ys) x c = kept_step y ys (p y) refl (kept_is ys) x c

    kept_into_step : (y : X) (ys : List X) (b : Bool) → p y ≡ b → (x : X) → p x ≡ true → (Contains ys x → Contains (filter p ys) x)
        → Contains (y ∷ ys) x → Contains (if b then y ∷ filter p ys else filter p ys) x
    kept_into_step y ys true is x e rest c =
        elim (contains_cases x y ys c) [
          | inl s ↦ subst (Contains (y ∷ filter p ys)) s (contains_here y (filter p ys))
          | inr d ↦ contains_later x y (filter p ys) (rest d)
        ]
    kept_into_step y ys false is x e rest c =
        elim (contains_cases x y ys c) [
          | inl s ↦ absurd (let f : false ≡ true = sym is ∙ ap p s ∙ e in cc)
          | inr d ↦ rest d
        ]

    pub kept_into : (xs : List X) (x : X) → Contains xs x → p x ≡ true → Contains (filter p xs) x
    kept_into [] x c e = absurd (contains_none x c)
    kept_into (y ∷ ys) x c e = kept_into_step y ys (p y) refl x e (λ d. kept_into ys x d e) c

    find_some_step : (y : X) (ys : List X) (b : Bool) → p y ≡ b → (x : X) → p x ≡ true
        → (Contains ys x → (z : X) × (find p ys ≡ Some z)) → Contains (y ∷ ys) x → (z : X) × ((if b then Some y else find p ys) ≡ Some z)
    find_some_step y ys true is x e rest c = (y, refl)
    find_some_step y ys false is x e rest c =
        elim (contains_cases x y ys c) [ inl s ↦ absurd (let f : false ≡ true = sym is ∙ ap p s ∙ e in cc) | inr d ↦ rest d ]

    pub find_some : (xs : List X) (x : X) → Contains xs x → p x ≡ true → (z : X) × (find p xs ≡ Some z)
    find_some [] x c e = absurd (contains_none x c)
    find_some (y ∷ ys) x c e = find_some_step y ys (p y) refl x e (λ d. find_some ys x d e) c
