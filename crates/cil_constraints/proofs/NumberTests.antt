-- Tests by numbers and by levels.
use Rattle.std.specs.Prelude.{◌↔◌, IsTrue, Contains}
use Rattle.std.proofs.Common.{◌≡◌, ◌⊎◌, ℕ, Bool, true, false, ◌||◌, ◌==◌, List, [], ◌∷◌, refl, sym, subst, inl, inr, arith}
use Rattle.std.proofs.lemmas.Bool.Decides.{nat_tests}
use Rattle.cil_base.specs.Lists.{contains_cases, contains_here, contains_later, contains_none}
use Rattle.cil_base.specs.Among.{among}
use Rattle.cil_mls.specs.declared.level.Level.{Level}
use Rattle.cil_mls.specs.Dominance.{Dominates, dominates}
use Rattle.cil_mls.proofs.DominanceLemmas.{dominates_is}

pub same_number : (m n : ℕ) → (m == n) ≡ true → m ≡ n
same_number m n e = grind (arith, nat_tests)

pub number_tells : (m n : ℕ) → m ≡ n → (m == n) ≡ true
number_tells m n e = grind (arith, nat_tests)

either_true : (b c : Bool) → (b || c) ≡ true → (b ≡ true) ⊎ (c ≡ true)
either_true true c e = inl refl
either_true false c e = inr e

pub has_there : (set : List ℕ) (n : ℕ) → among set n ≡ true → Contains set n
has_there [] n e = absurd (let f : false ≡ true = e in cc)
has_there (k ∷ ks) n e = elim (either_true (k == n) (among ks n) e) [
  | inl h ↦ subst (Contains (k ∷ ks)) (same_number k n h) (contains_here k ks)
  | inr h ↦ contains_later n k ks (has_there ks n h)
]

pub has_back : (set : List ℕ) (n : ℕ) → Contains set n → among set n ≡ true
has_back [] n c = absurd (contains_none n c)
has_back (k ∷ ks) n c = elim (contains_cases n k ks c) [
  | inl e ↦ first (k == n) (among ks n) (number_tells k n e)
  | inr d ↦ second (k == n) (among ks n) (has_back ks n d)
] where
  first : (b c : Bool) → b ≡ true → (b || c) ≡ true
  first true c e = refl
  first false c e = absurd cc

  second : (b c : Bool) → c ≡ true → (b || c) ≡ true
  second true c e = refl
  second false c e = e

pub has_is : (test : Bool) (set : List ℕ) (n : ℕ) → IsTrue test ↔ Contains set n → test ≡ among set n
has_is true set n is = sym (has_back set n (is.0 refl))
has_is false set n is = go (among set n) (λ h. is.1 (has_there set n h)) where
  go : (b : Bool) → (b ≡ true → IsTrue false) → false ≡ b
  go false f = refl
  go true f = absurd (let g = f refl in cc)

-- what answers whether a level dominates another is the test of the definitions
pub dominance_is : (test : Bool) (a b : Level) → IsTrue test ↔ Dominates a b → test ≡ dominates a b
dominance_is true a b is = sym ((dominates_is a b).1 (is.0 refl))
dominance_is false a b is = go (dominates a b) (λ h. is.1 ((dominates_is a b).0 h)) where
  go : (t : Bool) → (t ≡ true → IsTrue false) → false ≡ t
  go false f = refl
  go true f = absurd (let g = f refl in cc)
