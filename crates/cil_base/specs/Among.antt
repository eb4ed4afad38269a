-- Numbers that are in a list, as a test.
use Rattle.std.specs.Prelude.{◌≡◌, ◌⊎◌, ℕ, zero, suc, ◌<◌, ◌≤◌, Bool, true, false, ◌||◌, ◌==◌, List, [], ◌∷◌, ◌++◌, length, take}
use Rattle.std.specs.List.{list_any}
use Rattle.std.proofs.Common.{get_or, refl, ◌∙◌, ap, inl, inr, arith}
use Rattle.std.proofs.lemmas.Bool.Decides.{nat_tests}
use Rattle.std.proofs.lemmas.Grind.{common_steps}
use Rattle.std.proofs.lemmas.List.Folds.{list_any-append}

-- the number is one of these
abbrev pub among : List ℕ → ℕ → Bool
among numbers v = list_any (λ k. k == v) numbers

pub equal_number : (a b : ℕ) → (a == b) ≡ true → a ≡ b
equal_number a b e = grind (arith, nat_tests)

pub either : (a b : Bool) → (a || b) ≡ true → (a ≡ true) ⊎ (b ≡ true)
either true b e = inl refl
either false b e = inr e

keeps : (a b c : Bool) → (b ≡ true → c ≡ true) → (a || b) ≡ true → (a || c) ≡ true
keeps true b c f h = refl
keeps false b c f h = f h

or_nothing : (b : Bool) → (b || false) ≡ b
or_nothing true = refl
or_nothing false = refl

-- one number more is put behind them
pub among_push : (numbers : List ℕ) (v u : ℕ) → among (numbers ++ v ∷ []) u ≡ (among numbers u || (v == u))
among_push numbers v u = list_any-append (λ k. k == u) numbers (v ∷ []) ∙ ap (λ b. among numbers u || b) (or_nothing (v == u))

-- what is at a place is among them
pub among_at : (numbers : List ℕ) (i : ℕ) → i < length numbers → among numbers (get_or numbers i 0) ≡ true
among_at numbers i l = grind (arith, nat_tests, common_steps)

-- where one of them is
pub place_of : (numbers : List ℕ) (v : ℕ) → among numbers v ≡ true → (i : ℕ) × (i < length numbers) × (get_or numbers i 0 ≡ v)
place_of [] v h = absurd (let e : false ≡ true = h in cc)
place_of (n ∷ ns) v h = elim (either (n == v) (among ns v) h) [
  | inl e ↦ (0, omega arith, equal_number n v e)
  | inr e ↦ let r = place_of ns v e in (suc r.0, omega (arith, r.1), r.2)
]

-- one of the first is one of them
pub among_take : (numbers : List ℕ) (i v : ℕ) → among (take i numbers) v ≡ true → among numbers v ≡ true
among_take [] zero v h = h
among_take [] (suc i) v h = h
among_take (n ∷ ns) zero v h = absurd (let e : false ≡ true = h in cc)
among_take (n ∷ ns) (suc i) v h = keeps (n == v) (among (take i ns) v) (among ns v) (among_take ns i v) h

pub among_first : (numbers : List ℕ) (j i v : ℕ) → j ≤ i → among (take j numbers) v ≡ true → among (take i numbers) v ≡ true
among_first [] zero zero v l h = h
among_first [] zero (suc i) v l h = h
among_first [] (suc j) zero v l h = h
among_first [] (suc j) (suc i) v l h = h
among_first (n ∷ ns) zero i v l h = absurd (let e : false ≡ true = h in cc)
among_first (n ∷ ns) (suc j) zero v l h = absurd (omega (arith, l))
among_first (n ∷ ns) (suc j) (suc i) v l h =
    keeps (n == v) (among (take j ns) v) (among (take i ns) v) (among_first ns j i v (omega (arith, l))) h
