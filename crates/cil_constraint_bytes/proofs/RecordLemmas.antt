-- Records that are put one behind the other.
use Rattle.std.proofs.Common.{◌≡◌, ℕ, ◌+◌, ◌<◌, ◌≤◌, List, [], ◌∷◌, ◌++◌, length, take, get_or, sym, ap, ◌∙◌}
use Rattle.std.specs.List.{flat_map}
use Rattle.std.proofs.lemmas.List.{flat_map_more, take_all, take_more}

module _ {X : Type 0} (spell : X → List ℕ) (xs : List X) (i : ℕ) (base : List ℕ) where
  -- the next one was put
  pub next_put : (x d : X) (old new : List ℕ) → i < length xs → x ≡ get_or xs i d → old ≡ base ++ flat_map spell (take i xs) → new ≡ old ++ spell x
      → new ≡ base ++ flat_map spell (take (i + 1) xs)
  next_put x d old new lt is so e =
      e ∙ ap (λ (w : List ℕ). w ++ spell x) so ∙ flat_map_more spell base (take i xs) x
      ∙ ap (λ (ys : List X). base ++ flat_map spell ys) (ap (λ (y : X). take i xs ++ y ∷ []) is ∙ sym (take_more xs i d lt))

  -- all were put
  pub last_put : (new : List ℕ) → length xs ≤ i → new ≡ base ++ flat_map spell (take i xs) → new ≡ base ++ flat_map spell xs
  last_put new le so = so ∙ ap (λ (ys : List X). base ++ flat_map spell ys) (take_all i xs le)
