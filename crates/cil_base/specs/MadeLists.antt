-- Lists that are made of others, mapped or joined: their members, and how a loop makes them item by item.
use Rattle.std.proofs.Common.{◌≡◌, ℕ, ◌+◌, ◌<◌, ◌≤◌, List, [], ◌∷◌, ◌++◌, length, get_or, map, take, sym, ◌∙◌, ap, subst, inl, inr, append_assoc}
use Rattle.std.specs.Prelude.{Contains}
use Rattle.std.specs.List.{flat_map}
use Rattle.std.proofs.lemmas.List.{flat_map_more, map-append, take_more, take_all}
use Rattle.std.proofs.lemmas.List.Elements.{Contains-append_left, Contains-append_right, Contains-append_cases}
use Rattle.cil_base.specs.Lists.{contains_here, contains_later, contains_cases, contains_none}

-- ---- members

module _ {X Y : Type 0} (f : X → Y) where
  pub contains_map : (xs : List X) (x : X) → Contains xs x → Contains (map f xs) (f x)
  contains_map [] x c = absurd (contains_none x c)
  contains_map (y ∷ ys) x c =
      elim (contains_cases x y ys c) [
        | inl e ↦ subst (λ z. Contains (f y ∷ map f ys) (f z)) e (contains_here (f y) (map f ys))
        | inr d ↦ contains_later (f x) (f y) (map f ys) (contains_map ys x d)
      ]

  pub from_map : (xs : List X) (y : Y) → Contains (map f xs) y → (x : X) × Contains xs x × (f x ≡ y)
  from_map [] y c = absurd (contains_none y c)
  from_map (x ∷ xs) y c =
      elim (contains_cases y (f x) (map f xs) c) [
        | inl e ↦ (x, contains_here x xs, e)
        | inr d ↦ let r = from_map xs y d in (r.0, contains_later r.0 x xs r.1, r.2)
      ]

module _ {X Y : Type 0} (f : X → List Y) where
  pub contains_flat : (xs : List X) (x : X) (y : Y) → Contains xs x → Contains (f x) y → Contains (flat_map f xs) y
  contains_flat [] x y c d = absurd (contains_none x c)
  contains_flat (z ∷ zs) x y c d =
      elim (contains_cases x z zs c) [
        | inl e ↦ Contains-append_left (f z) (flat_map f zs) y (subst (λ w. Contains (f w) y) (sym e) d)
        | inr g ↦ Contains-append_right (f z) (flat_map f zs) y (contains_flat zs x y g d)
      ]

  pub from_flat : (xs : List X) (y : Y) → Contains (flat_map f xs) y → (x : X) × Contains xs x × Contains (f x) y
  from_flat [] y c = absurd (contains_none y c)
  from_flat (x ∷ xs) y c =
      elim (Contains-append_cases (f x) (flat_map f xs) y c) [
        | inl d ↦ (x, contains_here x xs, d)
        | inr d ↦ let r = from_flat xs y d in (r.0, contains_later r.0 x xs r.1, r.2)
      ]

-- ---- mapped, one by one

module _ {X Y : Type 0} (f : X → Y) where
  pub one_mapped : (xs : List X) (k : ℕ) (v d : X) (before old new : List Y) → k < length xs → v ≡ get_or xs k d → old ≡ before ++ map f (take k xs)
      → new ≡ old ++ f v ∷ [] → new ≡ before ++ map f (take (k + 1) xs)
  one_mapped xs k v d before old new h is so e =
      e ∙ ap (λ ys. ys ++ f v ∷ []) so ∙ append_assoc before (map f (take k xs)) (f v ∷ [])
      ∙ ap (λ ys. before ++ ys) (sym (ap (map f) (take_more xs k d h ∙ ap (λ x. take k xs ++ x ∷ []) (sym is)) ∙ map-append f (take k xs) (v ∷ [])))

  pub all_mapped : (xs : List X) (k : ℕ) (before new : List Y) → length xs ≤ k → new ≡ before ++ map f (take k xs) → new ≡ before ++ map f xs
  all_mapped xs k before new over so = so ∙ ap (λ ys. before ++ map f ys) (take_all k xs over)

-- ---- joined, one by one

module _ {X Y : Type 0} (f : X → List Y) where
  pub one_flat : (xs : List X) (k : ℕ) (v d : X) (old new : List Y) → k < length xs → v ≡ get_or xs k d → old ≡ flat_map f (take k xs) → new ≡ old ++ f v
      → new ≡ flat_map f (take (k + 1) xs)
  one_flat xs k v d old new h is so e =
      e ∙ ap (λ ys. ys ++ f v) so ∙ flat_map_more f [] (take k xs) v ∙ ap (flat_map f) (sym (take_more xs k d h ∙ ap (λ x. take k xs ++ x ∷ []) (sym is)))

  pub all_flat : (xs : List X) (k : ℕ) (new : List Y) → length xs ≤ k → new ≡ flat_map f (take k xs) → new ≡ flat_map f xs
  all_flat xs k new over so = so ∙ ap (flat_map f) (take_all k xs over)
