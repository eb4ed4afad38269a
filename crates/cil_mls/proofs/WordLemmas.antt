-- Words of 64 bits, bit by bit.
use Rattle.std.specs.Prelude.{◌≡◌, ◌↔◌, ◌⊎◌, ℕ, ◌-◌, ◌*◌, ◌/◌, ◌%◌, ◌^◌, ◌<◌, ◌≤◌, nat_eq, IsTrue, bit_and, bit_or}
use Rattle.std.specs.Int.{bit_at}
use Rattle.std.proofs.Common.{sym, ◌∙◌, ap, inl, inr, arith}
use Rattle.std.proofs.lemmas.Bool.{cases_lt}
use Rattle.std.proofs.lemmas.Bool.Decides.{nat_tests}
use Rattle.std.proofs.lemmas.Nat.Bits.{bit_at_and, bit_at_or, bit_at-lt, bit_at_mask_inside, bit_at_mask_below, bit_at_ones, bit_at_ones_above, ones_shl, ones_shr, same_from_bits, bit_at_above}

least : (m n : ℕ) → m < 2 → n < 2 → (Prim.Native.Nat.min m n ≡ 1) ↔ ((m ≡ 1) × (n ≡ 1))
least m n p q = (λ e. grind arith, λ h. grind arith)

-- the ones from the first bit on, and those before the end
pub between_is : (first end k : ℕ) → first < end → end ≤ 64 → k < 64
    → (bit_at (bit_and (18446744073709551615 * 2 ^ first % 18446744073709551616) (18446744073709551615 / 2 ^ (64 - end))) k ≡ 1) ↔ ((first ≤ k) × (k < end))
between_is first end k some few l =
    let high : 18446744073709551615 * 2 ^ first % 18446744073709551616 ≡ 2 ^ 64 - 2 ^ first = ones_shl 64 first (omega arith) in
    let low : 18446744073709551615 / 2 ^ (64 - end) ≡ 2 ^ end - 1 = ones_shr 64 (64 - end) (omega arith) ∙ ap (λ n. 2 ^ n - 1) (let e : 64 - (64 - end) ≡ end = omega arith in e) in
    let a = bit_at (2 ^ 64 - 2 ^ first) k in
    let b = bit_at (2 ^ end - 1) k in
    let both = least a b (bit_at-lt _ k) (bit_at-lt _ k) in
    rw high (rw low (rw (bit_at_and (2 ^ 64 - 2 ^ first) (2 ^ end - 1) k) (
      λ e. let ones = both.0 e in (
        elim (cases_lt k first) [ inl less ↦ let z = bit_at_mask_below first 64 k less in absurd (omega (arith, ones.0, z)) | inr ge ↦ ge ],
        elim (cases_lt k end) [ inl less ↦ less | inr ge ↦ let z = bit_at_ones_above end k ge in absurd (omega (arith, ones.1, z)) ],
      ),
      λ h. both.1 (bit_at_mask_inside first 64 k h.0 l, bit_at_ones end k h.1),
    )))

-- where joining adds no bit to the word, all bits of the other are its own
covered : (word other : ℕ) → other < 2 ^ 64 → (bit_or word other ≡ word) ↔ ((k : ℕ) → k < 64 → bit_at other k ≡ 1 → bit_at word k ≡ 1)
covered word other few = (
  λ e k l one.
      let m : bit_at (bit_or word other) k ≡ bit_at word k = ap (λ n. bit_at n k) e in
      let n = bit_at_or word other k in
      most (bit_at word k) (bit_at other k) (bit_at-lt word k) (sym n ∙ m) one,
  λ f. same_from_bits (bit_or word other) word (λ k. elim (cases_lt k 64) [
    | inl less ↦ bit_at_or word other k ∙ greater (bit_at word k) (bit_at other k) (bit_at-lt word k) (bit_at-lt other k) (f k less)
    | inr ge ↦ bit_at_or word other k ∙ ap (λ n. Prim.Native.Nat.max (bit_at word k) n) (bit_at_above other 64 k few ge) ∙ with_none (bit_at word k)
  ]),
)
  where
    most : (m n : ℕ) → m < 2 → Prim.Native.Nat.max m n ≡ m → n ≡ 1 → m ≡ 1
    most m n l e one = grind arith

    two : (n : ℕ) → n < 2 → (n ≡ 0) ⊎ (n ≡ 1)
    two n l = grind arith

    greater : (m n : ℕ) → m < 2 → n < 2 → (n ≡ 1 → m ≡ 1) → Prim.Native.Nat.max m n ≡ m
    greater m n p q f = elim (two n q) [ inl z ↦ grind arith | inr o ↦ let e = f o in grind arith ]

    with_none : (m : ℕ) → Prim.Native.Nat.max m 0 ≡ m
    with_none m = grind arith

-- the same as a test
pub covered_so : (word other : ℕ) → other < 18446744073709551616 → IsTrue (nat_eq (bit_or word other) word) ↔ ((k : ℕ) → k < 64 → bit_at other k ≡ 1 → bit_at word k ≡ 1)
covered_so word other few = let both = covered word other few in (λ t. both.0 (equal_so (bit_or word other) word t), λ f. so_equal (bit_or word other) word (both.1 f))
  where
    equal_so : (a b : ℕ) → IsTrue (nat_eq a b) → a ≡ b
    equal_so a b e = grind (arith, nat_tests)

    so_equal : (a b : ℕ) → a ≡ b → IsTrue (nat_eq a b)
    so_equal a b e = grind (arith, nat_tests)
