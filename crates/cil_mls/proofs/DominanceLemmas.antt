-- The test of dominance is dominance.
use Rattle.std.specs.Prelude.{◌≡◌, ◌↔◌, ℕ, zero, suc, ◌<◌, ◌≤◌, Bool, true, false, ◌&&◌, ◌||◌, not, leb}
use Rattle.std.proofs.Common.{refl, subst, inl, inr, arith}
use Rattle.std.proofs.lemmas.Bool.{cases_lt}
use Rattle.std.proofs.lemmas.Bool.Decides.{nat_tests}
use Rattle.cil_mls.specs.declared.level.Level.{Level}
use Rattle.cil_mls.specs.Dominance.{Dominates, are_covered, dominates, has}

both_true : (a b : Bool) → (a && b) ≡ true → (a ≡ true) × (b ≡ true)
both_true true b e = (refl, e)
both_true false b e = absurd (let f : false ≡ true = e in cc)

true_both : (a b : Bool) → a ≡ true → b ≡ true → (a && b) ≡ true
true_both true b e f = f
true_both false b e f = e

given : (i o : Bool) → (not i || o) ≡ true → i ≡ true → o ≡ true
given true o e f = e
given false o e f = absurd (let g : false ≡ true = f in cc)

giving : (i o : Bool) → (i ≡ true → o ≡ true) → (not i || o) ≡ true
giving true o f = f refl
giving false o f = refl

covered_each : (n : ℕ) (outer inner : ℕ → Bool) → are_covered n outer inner ≡ true → (c : ℕ) → c < n → inner c ≡ true → outer c ≡ true
unfolding are_covered
covered_each zero outer inner e c l i = absurd (omega (arith, l))
covered_each (suc n) outer inner e c l i =
    let both = both_true (not (inner n) || outer n) (are_covered n outer inner) e in
    elim (cases_lt c n) [
      | inl less ↦ covered_each n outer inner both.1 c less i
      | inr ge ↦ let same : n ≡ c = omega (arith, ge, l) in subst (λ k. inner k ≡ true → outer k ≡ true) same (given (inner n) (outer n) both.0) i
    ]

each_covered : (n : ℕ) (outer inner : ℕ → Bool) → ((c : ℕ) → c < n → inner c ≡ true → outer c ≡ true) → are_covered n outer inner ≡ true
unfolding are_covered
each_covered zero outer inner f = refl
each_covered (suc n) outer inner f =
    true_both (not (inner n) || outer n) (are_covered n outer inner) (giving (inner n) (outer n) (f n (omega arith))) (each_covered n outer inner (λ c l. f c (omega (arith, l))))

pub dominates_is : (a b : Level) → (dominates a b ≡ true) ↔ Dominates a b
unfolding dominates
dominates_is a b = (
  λ e. let both = both_true (leb b.sensitivity a.sensitivity) (are_covered 1024 (has a) (has b)) e in
      record { sensitivity = le_so b.sensitivity a.sensitivity both.0; categories = covered_each 1024 (has a) (has b) both.1 },
  λ d. true_both (leb b.sensitivity a.sensitivity) (are_covered 1024 (has a) (has b)) (so_le b.sensitivity a.sensitivity d.sensitivity) (each_covered 1024 (has a) (has b) d.categories),
)
  where
    le_so : (m n : ℕ) → leb m n ≡ true → m ≤ n
    le_so m n e = grind (arith, nat_tests)

    so_le : (m n : ℕ) → m ≤ n → leb m n ≡ true
    so_le m n e = grind (arith, nat_tests)
