-- Places of the numbers of a row, filled one by one.
use Rattle.std.specs.Prelude.{Some, set, slice_get}
use Rattle.std.proofs.Common.{◌≡◌, ◌⊎◌, ◌==◌, ℕ, ◌+◌, ◌<◌, true, false, List, get_or, length, sym, ◌∙◌, ap, subst, inl, inr, arith}
use Rattle.std.proofs.lemmas.Bool.{cases_Bool}
use Rattle.std.proofs.lemmas.Bool.Decides.{nat_tests}
use Rattle.std.proofs.lemmas.List.{get_or-set_other, get_or-set_same, length-set}
use Rattle.std.proofs.lemmas.Option.{same_Some}
use Rattle.cil_base.specs.Places.{in_range}
use Rattle.cil_levels.specs.Begun.{AreInverse, AreOnce}

-- the places of those before this one are there
pub record ArePlaced (count : ℕ) (row : List ℕ) (at : ℕ) (places : List ℕ) : Type 0 where
  pub len : length places ≡ count
  pub each : (j n : ℕ) → j < at → slice_get row j ≡ Some n → get_or places n 0 ≡ j
  pub few : (n : ℕ) → get_or places n 0 < 1024

same_number : (a b : ℕ) → (a == b) ≡ true → a ≡ b
same_number a b e = grind (arith, nat_tests)

other_number : (a b : ℕ) → (a == b) ≡ false → a ≡ b → ⊥
other_number a b e f = grind (arith, nat_tests)

before_or_at : (j at : ℕ) → j < at + 1 → (j < at) ⊎ (j ≡ at)
before_or_at j at l = grind arith

pub one_placed : (count : ℕ) (row places : List ℕ) (at n : ℕ) → AreOnce row → slice_get row at ≡ Some n → n < count → at < 1024 → ArePlaced count row at places → ArePlaced count row (at + 1) (set places n at)
one_placed count row places at n once is within few are =
    let len = are.len in
    let there : n < length places = omega (arith, within, len) in
    record {
      len = length-set places n at ∙ len;
      each = λ j m below e. elim (before_or_at j at below) [
        | inl before ↦
            get_or-set_other places n m at 0 (λ same. let k : j ≡ at = once j at n (e ∙ ap Some same) is in omega (arith, before, k))
            ∙ are.each j m before e
        | inr here ↦
            let same : m ≡ n = same_Some m n (sym e ∙ ap (slice_get row) here ∙ is) in
            ap (λ z. get_or (set places n at) z 0) same ∙ get_or-set_same places n at 0 there ∙ sym here
      ];
      few = λ m. elim (cases_Bool (m == n)) [
        | inl t ↦ subst (λ z. get_or (set places n at) z 0 < 1024) (sym (same_number m n t)) (subst (λ z. z < 1024) (sym (get_or-set_same places n at 0 there)) few)
        | inr f ↦ subst (λ z. z < 1024) (sym (get_or-set_other places n m at 0 (other_number m n f))) (are.few m)
      ];
    }

pub all_placed : (count : ℕ) (row places : List ℕ) (at : ℕ) → length row ≡ at → ArePlaced count row at places → AreInverse row places
all_placed count row places at over are i n e = are.each i n (let l = in_range row i n e in omega (arith, l, over)) e
