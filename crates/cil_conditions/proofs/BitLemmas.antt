-- Words by their bits.
use Rattle.std.proofs.Common.{◌≡◌, ℕ, sym, ◌∙◌, arith}
use Rattle.std.specs.Prelude.{◌↔◌, IsBitSet}
use Rattle.std.specs.Int.{bit_at}
use Rattle.std.proofs.lemmas.Nat.{bit_set_by_shift}
use Rattle.std.proofs.lemmas.Nat.Bits.{bit_at-zero, shr_and_one}

-- a bit is set where it is 1
pub set_is_one : (mask bit : ℕ) → IsBitSet mask bit ↔ (bit_at mask bit ≡ 1)
set_is_one mask bit =
    let shifted = bit_set_by_shift mask bit in
    (λ s. sym (shr_and_one mask bit) ∙ shifted.1 s, λ e. shifted.0 (shr_and_one mask bit ∙ e))

-- no bit of the empty mask is set
pub none_set : (bit : ℕ) → IsBitSet 0 bit → ⊥
none_set bit s = let one = (set_is_one 0 bit).0 s in let zero = bit_at-zero bit in absurd (omega arith)
