-- Sets of numbers in sixteen words.
use Rattle.std.specs.Prelude.{◌≡◌, ◌↔◌, ℕ, zero, suc, ◌+◌, ◌*◌, ◌/◌, ◌%◌, ◌<◌, ◌≤◌, Bool, true, ◌&&◌, ◌||◌, ◌==◌, leb, List, length, set, bit_and, bit_or, bit_xor}
use Rattle.std.specs.Int.{bit_at}
use Rattle.std.proofs.Common.{get_or, refl, sym, ◌∙◌, ap, inl, inr, arith}
use Rattle.std.proofs.lemmas.Bool.{cases_lt}
use Rattle.std.proofs.lemmas.Bool.Decides.{nat_tests}
use Rattle.std.proofs.lemmas.Nat.Bits.{bit_at_and, bit_at_or, bit_at_xor, bit_at-lt}
use Rattle.std.proofs.lemmas.List.{get_or-set_same, get_or-set_other, length-set}
use Rattle.cil_base.specs.Among.{equal_number}
use Rattle.cil_base.specs.Searches.{same_truth}
use Rattle.cil_mls.specs.Bits.{differ, in_words, is_between}

numbers_equal : (a b : ℕ) → a ≡ b → (a == b) ≡ true
numbers_equal a b e = grind (arith, nat_tests)

both_le : (a b c : ℕ) → a ≤ b → b ≤ c → (leb a b && leb b c) ≡ true
both_le a b c p q = grind (arith, nat_tests)

le_both : (a b c : ℕ) → (leb a b && leb b c) ≡ true → (a ≤ b) × (b ≤ c)
le_both a b c e = grind (arith, nat_tests)

one_of : (a b : ℕ) → a < 2 → b < 2 → (Prim.Native.Nat.max a b == 1) ≡ ((a == 1) || (b == 1))
one_of a b p q = grind (arith, nat_tests)

-- ---- a span is added

-- the numbers of the first words are added
pub record IsAddedUpTo (old : List ℕ) (first last at : ℕ) (new : List ℕ) : Type 0 where
  pub len : length new ≡ length old
  pub done : (c : ℕ) → c < at * 64 → in_words new c ≡ (in_words old c || is_between first last c)
  pub rest : (i : ℕ) → at ≤ i → get_or new i 0 ≡ get_or old i 0

-- one word more
pub word_added : (old : List ℕ) (first last at word : ℕ) (new : List ℕ) → at < length old → ((k : ℕ) → k < 64 → (bit_at word k == 1) ≡ is_between first last (at * 64 + k))
    → IsAddedUpTo old first last at new → IsAddedUpTo old first last (at + 1) (set new at (bit_or (get_or new at 0) word))
word_added old first last at word new l range before = record {
  len = length-set new at (bit_or (get_or new at 0) word) ∙ before.len;
  done = λ c m. elim (cases_lt c (at * 64)) [
    | inl less ↦
        let other : c / 64 < at = omega (arith, less) in
        ap (λ n. bit_at n (c % 64) == 1) (get_or-set_other new at (c / 64) (bit_or (get_or new at 0) word) 0 (λ e. omega (arith, e, other))) ∙ before.done c less
    | inr ge ↦
        let here : c / 64 ≡ at = omega (arith, ge, m) in
        let low : c % 64 < 64 = omega arith in
        let whole : at * 64 + c % 64 ≡ c = omega (arith, here) in
        let size = before.len in
        let put : get_or (set new at (bit_or (get_or new at 0) word)) (c / 64) 0 ≡ bit_or (get_or old (c / 64) 0) word =
        ap (λ i. get_or (set new at (bit_or (get_or new at 0) word)) i 0) here ∙ get_or-set_same new at (bit_or (get_or new at 0) word) 0 (omega (arith, l, size))
        ∙ ap (λ n. bit_or n word) (before.rest at (omega arith) ∙ ap (λ i. get_or old i 0) (sym here)) in
        ap (λ n. bit_at n (c % 64) == 1) put ∙ ap (λ n. n == 1) (bit_at_or (get_or old (c / 64) 0) word (c % 64))
        ∙ one_of (bit_at (get_or old (c / 64) 0) (c % 64)) (bit_at word (c % 64)) (bit_at-lt _ (c % 64)) (bit_at-lt word (c % 64))
        ∙ ap (λ b. in_words old c || b) (range (c % 64) low ∙ ap (λ n. is_between first last n) whole)
  ];
  rest = λ i m. get_or-set_other new at i (bit_or (get_or new at 0) word) 0 (λ e. omega (arith, e, m)) ∙ before.rest i (omega (arith, m));
}

-- the bits of a word that are numbers of the span
pub range_bits : (first last at f e word : ℕ) → ((k : ℕ) → k < 64 → (first ≤ at * 64 + k) ↔ (f ≤ k)) → ((k : ℕ) → k < 64 → (last + 1 ≤ at * 64 + k) ↔ (e ≤ k))
    → ((k : ℕ) → k < 64 → (bit_at word k ≡ 1) ↔ ((f ≤ k) × (k < e))) → (k : ℕ) → k < 64 → (bit_at word k == 1) ≡ is_between first last (at * 64 + k)
range_bits first last at f e word low high bits k l = same_truth (bit_at word k == 1) (is_between first last (at * 64 + k))
    (λ t. let is = (bits k l).0 (equal_number _ _ t) in
    let a : first ≤ at * 64 + k = (low k l).1 is.0 in
    let b : at * 64 + k ≤ last = elim (cases_lt last (at * 64 + k)) [ inl more ↦ let c = (high k l).0 (omega (arith, more)) in let d = is.1 in absurd (omega (arith, c, d)) | inr le ↦ le ] in
    both_le first (at * 64 + k) last a b)
    (λ t. let is = le_both first (at * 64 + k) last t in
    let a = (low k l).0 is.0 in
    let b : k < e = elim (cases_lt k e) [ inl less ↦ less | inr ge ↦ let c = (high k l).1 ge in let d = is.1 in absurd (omega (arith, c, d)) ] in
    numbers_equal _ _ ((bits k l).1 (a, b)))

-- ---- one set in another

-- where all numbers are in the other set, the bits of each word are
pub not_included : (words others : List ℕ) (at : ℕ) → at < 16 → ((c : ℕ) → c < 1024 → in_words others c ≡ true → in_words words c ≡ true)
    → (k : ℕ) → k < 64 → bit_at (get_or others at 0) k ≡ 1 → bit_at (get_or words at 0) k ≡ 1
not_included words others at small all k l one =
    let place : (at * 64 + k) / 64 ≡ at = omega (arith, l) in
    let bit : (at * 64 + k) % 64 ≡ k = omega (arith, l) in
    let t : in_words others (at * 64 + k) ≡ true = ap (λ i. bit_at (get_or others i 0) ((at * 64 + k) % 64) == 1) place ∙ ap (λ i. bit_at (get_or others at 0) i == 1) bit ∙ numbers_equal _ _ one in
    let u : in_words words (at * 64 + k) ≡ true = all (at * 64 + k) (omega (arith, l, small)) t in
    equal_number _ _ (sym (ap (λ i. bit_at (get_or words i 0) ((at * 64 + k) % 64) == 1) place ∙ ap (λ i. bit_at (get_or words at 0) i == 1) bit) ∙ u)

-- ---- two sets, joined word by word

-- one word more, where each of its bits is what is asked
pub word_put : (f : ℕ → Bool) (words : List ℕ) (at word : ℕ) → at < length words → ((k : ℕ) → k < 64 → (bit_at word k == 1) ≡ f (at * 64 + k))
    → ((c : ℕ) → c < at * 64 → in_words words c ≡ f c) → (c : ℕ) → c < (at + 1) * 64 → in_words (set words at word) c ≡ f c
word_put f words at word l bits before c m = elim (cases_lt c (at * 64)) [
  | inl less ↦
      let other : c / 64 < at = omega (arith, less) in
      ap (λ n. bit_at n (c % 64) == 1) (get_or-set_other words at (c / 64) word 0 (λ e. omega (arith, e, other))) ∙ before c less
  | inr ge ↦
      let here : c / 64 ≡ at = omega (arith, ge, m) in
      let low : c % 64 < 64 = omega arith in
      let whole : at * 64 + c % 64 ≡ c = omega (arith, here) in
      let put : get_or (set words at word) (c / 64) 0 ≡ word = ap (λ i. get_or (set words at word) i 0) here ∙ get_or-set_same words at word 0 l in
      ap (λ n. bit_at n (c % 64) == 1) put ∙ bits (c % 64) low ∙ ap f whole
]

-- a bit of a word is a number of the words
bit_of : (words : List ℕ) (at k : ℕ) → k < 64 → (bit_at (get_or words at 0) k == 1) ≡ in_words words (at * 64 + k)
bit_of words at k l =
    let place : (at * 64 + k) / 64 ≡ at = omega (arith, l) in
    let bit : (at * 64 + k) % 64 ≡ k = omega (arith, l) in
    sym (ap (λ i. bit_at (get_or words i 0) ((at * 64 + k) % 64) == 1) place ∙ ap (λ i. bit_at (get_or words at 0) i == 1) bit)

both_of : (a b : ℕ) → a < 2 → b < 2 → (Prim.Native.Nat.min a b == 1) ≡ ((a == 1) && (b == 1))
both_of a b p q = grind (arith, nat_tests)

odd_of : (a b : ℕ) → a < 2 → b < 2 → ((a + b) % 2 == 1) ≡ differ (a == 1) (b == 1)
odd_of zero zero p q = refl
odd_of zero (suc zero) p q = refl
odd_of (suc zero) zero p q = refl
odd_of (suc zero) (suc zero) p q = refl
odd_of (suc (suc a)) b p q = absurd (omega (arith, p))
odd_of zero (suc (suc b)) p q = absurd (omega (arith, q))
odd_of (suc zero) (suc (suc b)) p q = absurd (omega (arith, q))

-- the bits of two words, joined
pub or_word : (v w : List ℕ) (at k : ℕ) → k < 64 → (bit_at (bit_or (get_or v at 0) (get_or w at 0)) k == 1) ≡ (in_words v (at * 64 + k) || in_words w (at * 64 + k))
or_word v w at k l =
    ap (λ n. n == 1) (bit_at_or (get_or v at 0) (get_or w at 0) k) ∙ one_of _ _ (bit_at-lt _ k) (bit_at-lt _ k)
    ∙ ap (λ b. b || (bit_at (get_or w at 0) k == 1)) (bit_of v at k l) ∙ ap (λ b. in_words v (at * 64 + k) || b) (bit_of w at k l)

pub and_word : (v w : List ℕ) (at k : ℕ) → k < 64 → (bit_at (bit_and (get_or v at 0) (get_or w at 0)) k == 1) ≡ (in_words v (at * 64 + k) && in_words w (at * 64 + k))
and_word v w at k l =
    ap (λ n. n == 1) (bit_at_and (get_or v at 0) (get_or w at 0) k) ∙ both_of _ _ (bit_at-lt _ k) (bit_at-lt _ k)
    ∙ ap (λ b. b && (bit_at (get_or w at 0) k == 1)) (bit_of v at k l) ∙ ap (λ b. in_words v (at * 64 + k) && b) (bit_of w at k l)

pub xor_word : (v w : List ℕ) (at k : ℕ) → k < 64 → (bit_at (bit_xor (get_or v at 0) (get_or w at 0)) k == 1) ≡ differ (in_words v (at * 64 + k)) (in_words w (at * 64 + k))
xor_word v w at k l =
    ap (λ n. n == 1) (bit_at_xor (get_or v at 0) (get_or w at 0) k) ∙ odd_of _ _ (bit_at-lt _ k) (bit_at-lt _ k)
    ∙ ap (λ b. differ b (bit_at (get_or w at 0) k == 1)) (bit_of v at k l) ∙ ap (λ b. differ (in_words v (at * 64 + k)) b) (bit_of w at k l)
