-- Lists of numbers that rise.
use Rattle.std.proofs.Common.{◌≡◌, ℕ, ◌-◌, ◌+◌, ◌≤◌, ◌<◌, Bool, true, ltb, List, [], ◌∷◌, length, drop, refl, sym, ◌∙◌, arith}
use Rattle.std.specs.List.{AllByRecursion}
use Rattle.std.specs.List.Sorted.{IsStrictlySortedBy}
use Rattle.std.specs.Ordering.{nat_cmp}
use Rattle.std.specs.declared.cmp.Ordering.TheVariants.{Less}
use Rattle.std.proofs.lemmas.Cmp.{nat_cmp_total}
use Rattle.std.proofs.lemmas.Bool.{and_parts, ltb-true}
use Rattle.std.proofs.lemmas.List.{length-drop}
use Rattle.cil_format.specs.Fields.{rises, texts_rise}

short_rises : (xs : List ℕ) → length xs ≤ 1 → rises xs ≡ true
short_rises [] le = refl
short_rises (x ∷ []) le = refl
short_rises (x ∷ y ∷ more) le = absurd (omega (arith, le))

pub one_left : (xs : List ℕ) (at : ℕ) → length xs ≤ at → rises (drop (at - 1) xs) ≡ rises xs → true ≡ rises xs
one_left xs at le e = sym (short_rises (drop (at - 1) xs) (omega (arith, le, length-drop (at - 1) xs))) ∙ e

short_texts : (xs : List (List ℕ)) → length xs ≤ 1 → texts_rise xs ≡ true
short_texts [] le = refl
short_texts (x ∷ []) le = refl
short_texts (x ∷ y ∷ more) le = absurd (omega (arith, le))

pub one_text_left : (xs : List (List ℕ)) (at : ℕ) → length xs ≤ at → texts_rise (drop (at - 1) xs) ≡ texts_rise xs → true ≡ texts_rise xs
one_text_left xs at le e = sym (short_texts (drop (at - 1) xs) (omega (arith, le, length-drop (at - 1) xs))) ∙ e

below_from : (a : ℕ) (more : List ℕ) (n : ℕ) → rises (a ∷ more) ≡ true → AllByRecursion (λ k. k < n) (a ∷ more) → a + length (a ∷ more) ≤ n
below_from a [] n up all = omega (arith, all.0)
below_from a (b ∷ more) n up all =
    let parts = and_parts (ltb a b) (rises (b ∷ more)) up in
    let on = below_from b more n parts.1 all.1 in
    omega (arith, on, ltb-true a b parts.0)

-- a set of numbers below n has at most n of them
pub at_most : (xs : List ℕ) (n : ℕ) → rises xs ≡ true → AllByRecursion (λ k. k < n) xs → length xs ≤ n
at_most [] n up all = omega arith
at_most (a ∷ more) n up all = omega (arith, below_from a more n up all)

-- ---- rising lists as sets

above_all : (a b : ℕ) (more : List ℕ) → a < b → AllByRecursion (λ y. nat_cmp b y ≡ Less) more → AllByRecursion (λ y. nat_cmp a y ≡ Less) more
above_all a b [] lt all = tt
above_all a b (c ∷ more) lt all = (nat_cmp_total.trans a b c (grind (arith, lt)) all.0, above_all a b more lt all.1)

-- numbers of which each is above the one before it are the list of a set
pub sorted : (xs : List ℕ) → rises xs ≡ true → IsStrictlySortedBy nat_cmp xs
unfolding IsStrictlySortedBy
sorted [] up = tt
sorted (a ∷ []) up = (tt, tt)
sorted (a ∷ b ∷ more) up =
    let parts = and_parts (ltb a b) (rises (b ∷ more)) up in
    let lt = ltb-true a b parts.0 in
    let on = sorted (b ∷ more) parts.1 in
    ((grind (arith, lt), above_all a b more lt on.0), on)
