-- Rising numbers, and one of them.
use Rattle.std.specs.Prelude.{◌↔◌, Contains, IsTrue, MatchResult, Result, Ok, Err}
use Rattle.std.specs.Ordering.{nat_cmp}
use Rattle.std.specs.List.Sorted.{IsBinarySearchResult}
use Rattle.std.proofs.Common.{◌≡◌, ℕ, ◌+◌, ◌<◌, ◌≤◌, true, false, List, [], ◌∷◌, ◌++◌, length, get_or, refl, ◌∙◌, ap, subst, inl, inr, arith}
use Rattle.std.proofs.Math.Seq.{get_or-append_seam}
use Rattle.std.proofs.lemmas.Bool.{cases_lt}
use Rattle.std.proofs.lemmas.List.{get_or_append_left, get_or_default, length-append}
use Rattle.std.proofs.lemmas.List.Sorted.{searched}
use Rattle.cil_index.specs.Rising.{AreRising}

pub none_rise : (numbers : List ℕ) → numbers ≡ [] → AreRising numbers
none_rise numbers none i j le less = let size : length numbers ≡ 0 = ap (λ (z : List ℕ). length z) none in absurd (omega (arith, less, size))

pub rise_more : (old new : List ℕ) (number : ℕ) → AreRising old → ((n : ℕ) → Contains old n → n ≤ number) → new ≡ old ++ number ∷ [] → AreRising new
rise_more old new number up last push i j le less =
    let size : length new ≡ length old + 1 = ap (λ (z : List ℕ). length z) push ∙ length-append old (number ∷ []) in
    let before : (k : ℕ) → k < length old → get_or new k 0 ≡ get_or old k 0 = λ k within. ap (λ z. get_or z k 0) push ∙ get_or_append_left old (number ∷ []) 0 k within in
    let behind : get_or new (length old) 0 ≡ number = ap (λ z. get_or z (length old) 0) push ∙ get_or-append_seam old number [] 0 in
    elim (cases_lt j (length old)) [
      | inl within ↦ let one = before i (omega (arith, le, within)) in let two = before j within in let rise = up i j le within in omega (arith, one, two, rise)
      | inr past ↦ let end : j ≡ length old = omega (arith, past, less, size) in
          let at : get_or new j 0 ≡ number = ap (λ k. get_or new k 0) end ∙ behind in
          elim (cases_lt i (length old)) [
            | inl within ↦ let one = before i within in
                let most = last (get_or old i 0) (i, within, get_or_default old i (get_or old i 0) 0 within) in omega (arith, one, most, at)
            | inr over ↦ let same : i ≡ j = omega (arith, over, le, end) in let value : get_or new i 0 ≡ get_or new j 0 = ap (λ k. get_or new k 0) same in omega (arith, value)
          ]
    ]

abbrev Answer : List ℕ → ℕ → Result ℕ ℕ → Type 0
Answer numbers number r = MatchResult r (λ i. (i < length numbers) × (get_or numbers i 0 ≡ number))
    (λ i. (i ≤ length numbers) × ((k : ℕ) → k < i → get_or numbers k 0 < number) × ((k : ℕ) → i ≤ k → k < length numbers → number < get_or numbers k 0))

module _ (numbers slice : List ℕ) (number : ℕ) (same : slice ≡ numbers) (up : AreRising numbers) (r : Result ℕ ℕ) (result : IsBinarySearchResult (λ y. nat_cmp y number) slice r) where
  answer : Answer numbers number r
  answer = searched numbers number r (subst (λ z. IsBinarySearchResult (λ y. nat_cmp y number) z r) same result) up

  pub found : (i : ℕ) → r ≡ Ok i → IsTrue true ↔ Contains numbers number
  found i is =
      let at = subst (Answer numbers number) is answer in
      (λ t. (i, at.0, get_or_default numbers i number 0 at.0 ∙ at.1), λ c. refl)

  pub missing : (i : ℕ) → r ≡ Err i → IsTrue false ↔ Contains numbers number
  missing i is =
      let (bound, below, above) = subst (Answer numbers number) is answer in (
        λ h. let f : false ≡ true = h in absurd cc,
        λ (k, within, at). let value : get_or numbers k 0 ≡ number = get_or_default numbers k 0 number within ∙ at in elim (cases_lt k i) [
          | inl less ↦ let r = below k less in absurd (omega (arith, r, value))
          | inr ge ↦ let r = above k ge within in absurd (omega (arith, r, value))
        ],
      )
