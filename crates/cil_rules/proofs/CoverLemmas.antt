-- What one rule covers, part by part.
use Rattle.std.specs.Prelude.{◌↔◌, ◌==◌, ◌/◌, ◌^◌, IsBitSet, IsTrue, bit_and}
use Rattle.std.proofs.Common.{◌≡◌, ℕ, ◌<◌, ◌≤◌, ap, arith}
use Rattle.std.proofs.lemmas.Bool.Decides.{nat_tests}
use Rattle.std.proofs.lemmas.Nat.{bit_set_by_shift, div_below}
use lib.Pow.{pow_mono}

-- a mask of four bytes has no bit from 32 on
pub no_bit : (mask bit : ℕ) → mask < 2 ^ 32 → 32 ≤ bit → IsBitSet mask bit → ⊥
no_bit mask bit small over s =
    let most : 2 ^ 32 ≤ 2 ^ bit = pow_mono over in
    let none : mask / 2 ^ bit < 1 = div_below mask (2 ^ bit) 1 (omega (arith, most)) (omega (arith, small, most)) in
    let zero : mask / 2 ^ bit ≡ 0 = omega (arith, none) in
    let one = (bit_set_by_shift mask bit).1 s in
    absurd (let e = ap (λ q. bit_and q 1) zero in omega (arith, one, e))

-- the test of a bit
pub bit_tested : (mask bit : ℕ) → IsTrue (bit_and (mask / 2 ^ bit) 1 == 1) ↔ IsBitSet mask bit
bit_tested mask bit =
    let set = bit_set_by_shift mask bit in
    (λ t. set.0 (from_test (bit_and (mask / 2 ^ bit) 1) t), λ s. to_test (bit_and (mask / 2 ^ bit) 1) (set.1 s))
  where
    from_test : (x : ℕ) → IsTrue (x == 1) → x ≡ 1
    from_test x t = grind (arith, nat_tests)

    to_test : (x : ℕ) → x ≡ 1 → IsTrue (x == 1)
    to_test x e = grind (arith, nat_tests)
