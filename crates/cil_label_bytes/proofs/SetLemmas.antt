-- Sets of categories as rising numbers and as words: each gives the other.
use Rattle.std.proofs.Common.{◌≡◌, ℕ, zero, suc, ◌+◌, ◌*◌, ◌/◌, ◌%◌, ◌^◌, ◌<◌, ◌≤◌, ◌⊎◌, Bool, true, false, cond, ltb, List, [], ◌∷◌, length, get_or, refl, sym, ap, subst, ◌∙◌, inl, inr, arith}
use Rattle.std.specs.Prelude.{◌==◌}
use Rattle.std.specs.Int.{bit_at}
use Rattle.std.specs.List.{AllByRecursion}
use Rattle.std.proofs.Math.Nat.{pow-succ'}
use Rattle.std.proofs.lemmas.Bool.{cases_lt, and_parts, ltb-true}
use Rattle.std.proofs.lemmas.Bool.Decides.{nat_tests}
use Rattle.std.proofs.lemmas.Nat.Bits.{bit_at-suc, bit_at_lowest}
use Rattle.cil_base.specs.Among.{among}
use Rattle.cil_mls.specs.declared.categories.Categories.{Categories}
use Rattle.cil_mls.specs.declared.level.Level.{Level}
use Rattle.cil_mls.specs.Bits.{AreWords, in_words}
use Rattle.cil_mls.proofs.SameLemmas.{same_levels}
use Rattle.cil_format.specs.Fields.{rises, set, small}
use Rattle.cil_format.specs.Format.{many}
use Rattle.cil_label_bytes.specs.Sets.{passing, numbers_in, word_of, words_from, words_of}

-- ---- words

flag_is : (b : Bool) → (cond b 1 0 == 1) ≡ b
flag_is true = refl
flag_is false = refl

flag_less : (b : Bool) → cond b 1 0 < 2
flag_less true = omega arith
flag_less false = omega arith

module _ (test : ℕ → Bool) where
  -- bit by bit
  bits : (count from k : ℕ) → k < count → (bit_at (word_of test from count) k == 1) ≡ test (from + k)
  unfolding word_of
  bits zero from k l = absurd (omega (arith, l))
  bits (suc count) from zero l =
      let less = flag_less (test from) in
      let rest = word_of test (suc from) count in
      let odd : (cond (test from) 1 0 + 2 * rest) % 2 ≡ cond (test from) 1 0 = omega (arith, less) in
      let here : from + 0 ≡ from = omega arith in
      ap (λ n. n == 1) (bit_at_lowest (cond (test from) 1 0 + 2 * rest) ∙ odd) ∙ flag_is (test from) ∙ ap test (sym here)
  bits (suc count) from (suc k) l =
      let less = flag_less (test from) in
      let rest = word_of test (suc from) count in
      let half : (cond (test from) 1 0 + 2 * rest) / 2 ≡ rest = omega (arith, less) in
      let there : suc from + k ≡ from + suc k = omega arith in
      ap (λ n. n == 1) (bit_at-suc (cond (test from) 1 0 + 2 * rest) k ∙ ap (λ n. bit_at n k) half) ∙ bits count (suc from) k (omega (arith, l)) ∙ ap test there

  fits : (count from : ℕ) → word_of test from count < 2 ^ count
  unfolding word_of
  fits zero from = omega arith
  fits (suc count) from =
      let less = flag_less (test from) in
      let more = fits count (suc from) in
      let twice : 2 ^ suc count ≡ 2 * 2 ^ count = pow-succ' 2 count in
      omega (arith, less, more, twice)

  words_length : (count at : ℕ) → length (words_from test at count) ≡ count
  unfolding words_from
  words_length zero at = refl
  words_length (suc count) at = ap suc (words_length count (suc at))

  word_at : (count at i : ℕ) → i < count → get_or (words_from test at count) i 0 ≡ word_of test ((at + i) * 64) 64
  unfolding words_from
  word_at zero at i l = absurd (omega (arith, l))
  word_at (suc count) at zero l = let here : at + 0 ≡ at = omega arith in ap (λ n. word_of test (n * 64) 64) (sym here)
  word_at (suc count) at (suc i) l =
      let there : suc at + i ≡ at + suc i = omega arith in word_at count (suc at) i (omega (arith, l)) ∙ ap (λ n. word_of test (n * 64) 64) there

  words_fit : (count at i : ℕ) → get_or (words_from test at count) i 0 < 2 ^ 64
  unfolding words_from
  words_fit zero at i = omega arith
  words_fit (suc count) at zero = fits 64 (at * 64)
  words_fit (suc count) at (suc i) = words_fit count (suc at) i

  pub words_hold : (c : ℕ) → c < 1024 → in_words (words_from test 0 16) c ≡ test c
  words_hold c l =
      let place : c / 64 < 16 = omega (arith, l) in
      let low : c % 64 < 64 = omega arith in
      let whole : (0 + c / 64) * 64 + c % 64 ≡ c = omega arith in
      ap (λ n. bit_at n (c % 64) == 1) (word_at 16 0 (c / 64) place) ∙ bits 64 ((0 + c / 64) * 64) (c % 64) low ∙ ap test whole

  pub are_words : AreWords (words_from test 0 16)
  are_words = record { len = words_length 16 0; fit = words_fit 16 0 }

-- ---- numbers

-- the numbers rise, from one on and before another
abbrev pub IsWithin : ℕ → ℕ → List ℕ → Type 0
IsWithin from end [] = Unit {0}
IsWithin from end (a ∷ more) = (from ≤ a) × (a < end) × IsWithin (suc a) end more

later : (from mid end : ℕ) (xs : List ℕ) → mid ≤ from → IsWithin from end xs → IsWithin mid end xs
later from mid end [] le is = tt
later from mid end (a ∷ more) le is = (omega (arith, le, is.0), is.1, is.2)

equal_true : (a b : ℕ) → a ≡ b → (a == b) ≡ true
equal_true a b e = grind (arith, nat_tests)

equal_false : (a b : ℕ) → (a < b) ⊎ (b < a) → (a == b) ≡ false
equal_false a b (inl l) = grind (arith, nat_tests)
equal_false a b (inr l) = grind (arith, nat_tests)

none_before : (v from end : ℕ) (xs : List ℕ) → v < from → IsWithin from end xs → among xs v ≡ false
none_before v from end [] l is = refl
none_before v from end (a ∷ more) l is = rw (equal_false a v (inr (omega (arith, l, is.0)))) (none_before v (suc a) end more (omega (arith, l, is.0)) is.2)

-- two tests that agree let the same numbers pass
passing_same : (test other : ℕ → Bool) (count from : ℕ) → ((v : ℕ) → from ≤ v → v < from + count → test v ≡ other v) → passing test from count ≡ passing other from count
unfolding passing
passing_same test other zero from same = refl
passing_same test other (suc count) from same =
    let here : test from ≡ other from = same from (omega arith) (omega arith) in
    let rest = passing_same test other count (suc from) (λ v l m. same v (omega (arith, l)) (omega (arith, m))) in
    rw (here, rest) refl

-- the numbers that are among some are these
passing_among : (count from : ℕ) (xs : List ℕ) → IsWithin from (from + count) xs → passing (among xs) from count ≡ xs
unfolding passing
passing_among zero from [] is = refl
passing_among zero from (a ∷ more) is = absurd (omega (arith, is.0, is.1))
passing_among (suc count) from [] is = passing_among count (suc from) [] tt
passing_among (suc count) from (a ∷ more) is = elim (cases_lt from a) [
  | inl before ↦
      let sum : suc from + count ≡ from + suc count = omega arith in
      let later_ones : IsWithin (suc from) (suc from + count) (a ∷ more) = (omega (arith, before), omega (arith, is.1), subst (λ (n : ℕ). IsWithin (suc a) n more) (sym sum) is.2) in
      let rest = passing_among count (suc from) (a ∷ more) later_ones in
      rw (none_before from (suc from) (suc from + count) (a ∷ more) (omega arith) later_ones) rest
  | inr ge ↦
      let here : a ≡ from = omega (arith, ge, is.0) in
      let sum : suc from + count ≡ from + suc count = omega arith in
      let behind : IsWithin (suc from) (suc from + count) more =
      later (suc a) (suc from) (suc from + count) more (omega (arith, here)) (subst (λ (n : ℕ). IsWithin (suc a) n more) (sym sum) is.2) in
      let rest : passing (among (a ∷ more)) (suc from) count ≡ more =
      passing_same (among (a ∷ more)) (among more) count (suc from) (λ v l m. rw (equal_false a v (inl (omega (arith, l, here)))) refl) ∙ passing_among count (suc from) more behind in
      let is_it : among (a ∷ more) from ≡ true = rw (equal_true a from here) refl in
      rw (is_it, rest) (ap (λ (n : ℕ). n ∷ more) (sym here))
]

-- what passes rises
passing_on : (from end : ℕ) (b : Bool) (others : List ℕ) → from < end → IsWithin (suc from) end others → IsWithin from end (cond b (from ∷ others) others)
passing_on from end true others l is = (omega arith, l, is)
passing_on from end false others l is = later (suc from) from end others (omega arith) is

passing_within : (test : ℕ → Bool) (count from : ℕ) → IsWithin from (from + count) (passing test from count)
unfolding passing
passing_within test zero from = tt
passing_within test (suc count) from =
    let sum : suc from + count ≡ from + suc count = omega arith in
    passing_on from (from + suc count) (test from) (passing test (suc from) count) (omega arith)
    (subst (λ (n : ℕ). IsWithin (suc from) n (passing test (suc from) count)) sum (passing_within test count (suc from)))

-- what passes is among those that do
among_on : (test : ℕ → Bool) (from v : ℕ) (b : Bool) (others : List ℕ) → test from ≡ b → from ≤ v → (from ≡ v → among others v ≡ false) → (from < v → among others v ≡ test v)
    → among (cond b (from ∷ others) others) v ≡ test v
among_on test from v true others e l none rest = elim (cases_lt from v) [
  | inl more ↦ rw (equal_false from v (inl more)) (rest more)
  | inr le ↦ let here : from ≡ v = omega (arith, le, l) in rw (equal_true from v here) (sym (ap test (sym here) ∙ e))
]
among_on test from v false others e l none rest = elim (cases_lt from v) [
  | inl more ↦ rest more
  | inr le ↦ let here : from ≡ v = omega (arith, le, l) in none here ∙ sym (ap test (sym here) ∙ e)
]

among_passing : (test : ℕ → Bool) (count from v : ℕ) → from ≤ v → v < from + count → among (passing test from count) v ≡ test v
unfolding passing
among_passing test zero from v l m = absurd (omega (arith, l, m))
among_passing test (suc count) from v l m =
    among_on test from v (test from) (passing test (suc from) count) refl l
    (λ e. none_before v (suc from) (suc from + count) (passing test (suc from) count) (omega (arith, e)) (passing_within test count (suc from)))
    (λ more. among_passing test count (suc from) v (omega (arith, more)) (omega (arith, m)))

-- ---- each gives the other

within_of : (limit a : ℕ) (xs : List ℕ) → rises (a ∷ xs) ≡ true → AllByRecursion (λ n. n < limit) (a ∷ xs) → IsWithin a limit (a ∷ xs)
within_of limit a [] up all = (omega arith, all.0, tt)
within_of limit a (b ∷ more) up all =
    let parts = and_parts (ltb a b) (rises (b ∷ more)) up in
    let lt = ltb-true a b parts.0 in
    (omega arith, all.0, later b (suc a) limit (b ∷ more) (omega (arith, lt)) (within_of limit b more parts.1 all.1))

-- rising numbers below a limit
pub within : (limit : ℕ) (xs : List ℕ) → rises xs ≡ true → AllByRecursion (λ n. n < limit) xs → IsWithin 0 limit xs
within limit [] up all = tt
within limit (a ∷ more) up all = later a 0 limit (a ∷ more) (omega arith) (within_of limit a more up all)

wider : (from limit most : ℕ) (xs : List ℕ) → limit ≤ most → IsWithin from limit xs → IsWithin from most xs
wider from limit most [] le is = tt
wider from limit most (a ∷ more) le is = (is.0, omega (arith, le, is.1), wider (suc a) limit most more le is.2)

-- a set has a number just where that is among those that it was made of
pub has_among : (xs : List ℕ) (c : ℕ) → c < 1024 → in_words (words_of xs).words c ≡ among xs c
has_among xs = words_hold (among xs)

pub numbers_back : (limit : ℕ) (xs : List ℕ) → limit ≤ 1024 → IsWithin 0 limit xs → numbers_in (words_of xs) ≡ xs
numbers_back limit xs le is =
    passing_same (in_words (words_of xs).words) (among xs) 1024 0 (λ v l m. has_among xs v m) ∙ passing_among 1024 0 xs (wider 0 limit 1024 xs le is)

all_below : (limit n : ℕ) (xs : List ℕ) → (many (small limit) n).Fits xs → AllByRecursion (λ k. k < limit) xs
all_below limit n [] fits = tt
all_below limit n (x ∷ xs) fits = (ltb-true x limit fits.1.0.1, all_below limit (length xs) xs (refl, fits.1.1))

-- what is read of a set of categories comes back from the words
pub numbers_read : (limit : ℕ) (xs : List ℕ) → limit ≤ 1024 → (set limit).Fits xs → numbers_in (words_of xs) ≡ xs
numbers_read limit xs le fits = numbers_back limit xs le (within limit xs fits.1.1 (all_below limit (length xs) xs fits.1.0))

abbrev plain_level : Categories → Level
plain_level c = record { sensitivity = 0; categories = c }

-- sets with the same categories are equal
pub same_sets : (a b : Categories) → AreWords a.words → AreWords b.words → ((c : ℕ) → c < 1024 → in_words a.words c ≡ in_words b.words c) → a ≡ b
same_sets a b p q same =
    ap (λ (l : Level). l.categories) (same_levels (plain_level a) (plain_level b) p q record {
      sensitivity = refl;
      categories = λ c l. (λ h. sym (same c l) ∙ h, λ h. same c l ∙ h);
    })

-- what is written of a set gives it back
pub words_back : (set : Categories) → AreWords set.words → words_of (numbers_in set) ≡ set
words_back set are =
    same_sets (words_of (numbers_in set)) set (are_words (among (numbers_in set))) are
    (λ c l. has_among (numbers_in set) c l ∙ among_passing (in_words set.words) 1024 0 c (omega arith) l)
