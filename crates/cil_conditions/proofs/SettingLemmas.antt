-- Settings by their bits.
use Rattle.std.specs.Int.{bit_at}
use Rattle.std.specs.Prelude.{◌↔◌, Bool, true, false, IsBitSet, IsTrue}
use Rattle.std.proofs.Common.{◌≡◌, ℕ, zero, suc, ◌+◌, ◌<◌, List, sym, ◌∙◌, get_or, subst, inl, inr, refl, arith}
use Rattle.std.proofs.lemmas.Nat.Bits.{bit_at-lt}
use Rattle.cil_conditions.specs.Bits.{IsOn, IsSetTo}
use Rattle.cil_conditions.specs.Bits.{is_one}
use Rattle.std.proofs.lemmas.Bool.{cases_lt}
use Rattle.std.proofs.lemmas.List.{get_or-replicate, get_or_past}
use Rattle.std.proofs.Common.{replicate}
use Rattle.cil_conditions.proofs.BitLemmas.{none_set, set_is_one}

zero_word : (m : ℕ) → ◌≡◌ {A = ℕ} (get_or (replicate 64 0) m 0) 0
zero_word m = elim (cases_lt m 64) [
  | inl less ↦ get_or-replicate 64 m 0 0 less
  | inr ge ↦ get_or_past (replicate 64 0) m 0 ge
]

pub none_on : (m bit : ℕ) → IsBitSet (get_or (replicate 64 0) m 0) bit → ⊥
none_on m bit set = none_set bit (subst (λ w. IsBitSet w bit) (zero_word m) set)

one_is : (b : Bool) (v : ℕ) → v < 2 → ((b ≡ true) ↔ (v ≡ 1)) → b ≡ is_one v
one_is false zero l t = refl
one_is true zero l t = absurd (let e = t.0 refl in omega (arith, e))
one_is true (suc n) l t = refl
one_is false (suc n) l t = t.1 (omega (arith, l))

pub on_is : (b : Bool) (word bit : ℕ) → (IsTrue b ↔ IsBitSet word bit) → b ≡ is_one (bit_at word bit)
on_is b word bit t = let one = set_is_one word bit in one_is b (bit_at word bit) (bit_at-lt word bit) (λ e. one.0 (t.0 e), λ e. t.1 (one.1 e))

pub set_none : (values : List Bool) (words : List ℕ) → ((n : ℕ) → IsOn words n → ⊥) → IsSetTo values 0 words
set_none values words none n = (λ on. absurd (none n on), λ c. absurd (let l = c.0 in omega (arith, l)))

pub set_more : (values : List Bool) (i : ℕ) (old new : List ℕ) (value : Bool) → IsSetTo values i old → get_or values i false ≡ value → (IsOn new i ↔ (value ≡ true))
    → ((n : ℕ) → (n ≡ i → ⊥) → IsOn new n ↔ IsOn old n) → IsSetTo values (i + 1) new
set_more values i old new value kept is same others n =
    elim (cases_lt n i) [
      | inl less ↦ let both = others n (λ e. omega (arith, e, less)) in
          (λ on. let r = (kept n).0 (both.0 on) in (omega (arith, less), r.1), λ c. both.1 ((kept n).1 (less, c.1)))
      | inr ge ↦ elim (cases_lt i n) [
        | inl more ↦ let both = others n (λ e. omega (arith, e, more)) in
            (λ on. absurd (let r = ((kept n).0 (both.0 on)).0 in omega (arith, r, more)), λ c. absurd (let l = c.0 in omega (arith, l, more)))
        | inr le ↦ let e : n ≡ i = omega (arith, ge, le) in
            subst (λ m. IsOn new m ↔ ((m < i + 1) × (get_or values m false ≡ true))) (sym e) (λ on. (omega arith, is ∙ same.0 on), λ c. same.1 (sym is ∙ c.1))
      ]
    ]
