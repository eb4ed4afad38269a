-- Lists that are copied item by item.
use Rattle.std.proofs.Common.{◌≡◌, ℕ, ◌+◌, ◌<◌, ◌≤◌, List, [], ◌∷◌, ◌++◌, length, get_or, take, sym, ◌∙◌, ap}
use Rattle.std.proofs.lemmas.List.{take_all, take_more}

module _ {X : Type 0} (xs : List X) (k : ℕ) where
  pub one_taken : (v d : X) (old new : List X) → k < length xs → v ≡ get_or xs k d → old ≡ take k xs → new ≡ old ++ v ∷ [] → new ≡ take (k + 1) xs
  one_taken v d old new h is so e = e ∙ ap (λ ys. ys ++ v ∷ []) so ∙ sym (take_more xs k d h ∙ ap (λ x. take k xs ++ x ∷ []) (sym is))

  pub all_taken : (new : List X) → length xs ≤ k → new ≡ take k xs → new ≡ xs
  all_taken new over so = so ∙ take_all k xs over
