-- Lists of numbers that are at most some number.
use Rattle.std.proofs.Common.{◌≡◌, ℕ, ◌+◌, ◌<◌, ◌≤◌, List, length, get_or, true, false, refl, sym, subst, inl, inr, arith}
use Rattle.std.specs.Prelude.{◌↔◌, All, IsTrue}
use Rattle.std.proofs.lemmas.Bool.{cases_lt, true≢false}
use Rattle.std.proofs.lemmas.List.{get_or_default}

-- the first of these numbers are at most that
abbrev pub AreUpTo : List ℕ → ℕ → ℕ → Type 0
AreUpTo xs most i = (k d : ℕ) → k < i → get_or xs k d ≤ most

pub one_up_to : (xs : List ℕ) (most i : ℕ) → i < length xs → get_or xs i 0 ≤ most → AreUpTo xs most i → AreUpTo xs most (i + 1)
one_up_to xs most i within le so k d h =
    elim (cases_lt k i) [
      | inl less ↦ so k d less
      | inr ge ↦
          let same : i ≡ k = omega (arith, ge, h) in
          subst (λ j. get_or xs j d ≤ most) same (subst (λ x. x ≤ most) (get_or_default xs i 0 d within) le)
    ]

module _ (xs : List ℕ) (most n : ℕ) (is : most ≡ n) (i : ℕ) where
  pub all_up_to : length xs ≤ i → AreUpTo xs most i → IsTrue true ↔ All (λ k. k ≤ n) xs
  all_up_to over so = ((λ t k d h. subst (λ m. get_or xs k d ≤ m) is (so k d (omega (arith, over, h)))), (λ all. refl))

  pub not_up_to : i < length xs → most < get_or xs i 0 → IsTrue false ↔ All (λ k. k ≤ n) xs
  not_up_to within more = ((λ t. absurd (true≢false (sym t))), (λ all. absurd (let le : get_or xs i 0 ≤ n = all i 0 within in omega (arith, is, more, le))))
