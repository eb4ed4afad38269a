-- Masks by their bits.
use Rattle.std.proofs.Common.{◌≡◌, ℕ, ◌<◌, ◌⊎◌, inl, inr, sym, ◌∙◌, arith}
use Rattle.std.specs.Prelude.{◌↔◌, IsBitSet, bit_or}
use Rattle.std.specs.Int.{bit_at}
use Rattle.std.proofs.lemmas.Nat.{bit_set_by_shift}
use Rattle.std.proofs.lemmas.Nat.Bits.{bit_at_or, bit_at-lt, bit_at-zero, shr_and_one}

-- a bit is set where it is 1
pub set_is_one : (mask bit : ℕ) → IsBitSet mask bit ↔ (bit_at mask bit ≡ 1)
set_is_one mask bit =
    let shifted = bit_set_by_shift mask bit in
    (λ s. sym (shr_and_one mask bit) ∙ shifted.1 s, λ e. shifted.0 (shr_and_one mask bit ∙ e))

-- no bit of the empty mask is set
pub none_set : (bit : ℕ) → IsBitSet 0 bit → ⊥
none_set bit s = let one = (set_is_one 0 bit).0 s in let zero = bit_at-zero bit in absurd (omega arith)

-- the bits of a union are those of its parts
pub set_in_either : (a b bit : ℕ) → IsBitSet (bit_or a b) bit ↔ (IsBitSet a bit ⊎ IsBitSet b bit)
set_in_either a b bit = (
  λ s. let most = sym (bit_at_or a b bit) ∙ (set_is_one (bit_or a b) bit).0 s in
      elim (which (bit_at a bit) (bit_at b bit) most) [
        | inl e ↦ inl ((set_is_one a bit).1 e)
        | inr e ↦ inr ((set_is_one b bit).1 e)
      ],
  λ s. (set_is_one (bit_or a b) bit).1 (bit_at_or a b bit ∙ greatest (bit_at a bit) (bit_at b bit) (bit_at-lt a bit) (bit_at-lt b bit) (elim s [
    | inl e ↦ inl ((set_is_one a bit).0 e)
    | inr e ↦ inr ((set_is_one b bit).0 e)
  ])),
)
  where
    which : (m n : ℕ) → Prim.Native.Nat.max m n ≡ 1 → (m ≡ 1) ⊎ (n ≡ 1)
    which m n e = grind arith

    greatest : (m n : ℕ) → m < 2 → n < 2 → (m ≡ 1) ⊎ (n ≡ 1) → Prim.Native.Nat.max m n ≡ 1
    greatest m n p q e = grind arith
