-- What sensitivities permit, as a test.
use Rattle.std.proofs.Common.{◌≡◌, ℕ, zero, suc, ◌<◌, Bool, true, false, List, Option, Some, None, refl, sym, ap, subst, ◌∙◌, inl, inr, arith}
use Rattle.std.specs.Prelude.{◌↔◌, ◌&&◌, ◌||◌, not, IsTrue, slice_get}
use Rattle.std.proofs.lemmas.Bool.{cases_lt, and_parts}
use Rattle.cil_base.specs.Searches.{same_truth}
use Rattle.cil_mls.specs.declared.categories.Categories.{Categories}
use Rattle.cil_mls.specs.declared.level.Level.{Level}
use Rattle.cil_mls.specs.Bits.{in_words}
use Rattle.cil_mls.specs.Dominance.{Dominates, are_covered, dominates}
use Rattle.cil_mls.proofs.DominanceLemmas.{dominates_is}
use Rattle.cil_label_bytes.specs.Layout.{permits, set_has}

given : (i o : Bool) → (not i || o) ≡ true → i ≡ true → o ≡ true
given true o e f = e
given false o e f = absurd (let g : false ≡ true = f in cc)

giving : (i o : Bool) → (i ≡ true → o ≡ true) → (not i || o) ≡ true
giving true o f = f refl
giving false o f = refl

both_true : (a b : Bool) → a ≡ true → b ≡ true → (a && b) ≡ true
both_true true b e f = f
both_true false b e f = e

pub covered_each : (n : ℕ) (outer inner : ℕ → Bool) → are_covered n outer inner ≡ true → (c : ℕ) → c < n → inner c ≡ true → outer c ≡ true
unfolding are_covered
covered_each zero outer inner e c l i = absurd (omega (arith, l))
covered_each (suc n) outer inner e c l i =
    let both = and_parts (not (inner n) || outer n) (are_covered n outer inner) e in
    elim (cases_lt c n) [
      | inl less ↦ covered_each n outer inner both.1 c less i
      | inr ge ↦ let same : n ≡ c = omega (arith, ge, l) in subst (λ k. inner k ≡ true → outer k ≡ true) same (given (inner n) (outer n) both.0) i
    ]

pub each_covered : (n : ℕ) (outer inner : ℕ → Bool) → ((c : ℕ) → c < n → inner c ≡ true → outer c ≡ true) → are_covered n outer inner ≡ true
unfolding are_covered
each_covered zero outer inner f = refl
each_covered (suc n) outer inner f =
    both_true (not (inner n) || outer n) (are_covered n outer inner) (giving (inner n) (outer n) (f n (omega arith))) (each_covered n outer inner (λ c l. f c (omega (arith, l))))

-- an answer that says whether each is covered
covers : (outer inner : ℕ → Bool) (answer : Bool) → IsTrue answer ↔ ((c : ℕ) → c < 1024 → inner c ≡ true → outer c ≡ true) → answer ≡ are_covered 1024 outer inner
covers outer inner answer says =
    same_truth answer (are_covered 1024 outer inner) (λ e. each_covered 1024 outer inner (says.0 e)) (λ e. says.1 (covered_each 1024 outer inner e))

module _ (permitted : List Categories) (place : ℕ) (set : Categories) (answer : Bool) where
  pub some_permits : (all : Categories) → slice_get permitted place ≡ Some all → IsTrue answer ↔ ((c : ℕ) → c < 1024 → in_words set.words c ≡ true → in_words all.words c ≡ true)
      → answer ≡ permits permitted place set
  some_permits all at says = covers (in_words all.words) (in_words set.words) answer says ∙ ap (λ (o : Option Categories). are_covered 1024 (set_has o) (in_words set.words)) (sym at)

  pub none_permits : (words : List ℕ) → slice_get permitted place ≡ None → ((c : ℕ) → in_words words c ≡ false)
      → IsTrue answer ↔ ((c : ℕ) → c < 1024 → in_words set.words c ≡ true → in_words words c ≡ true) → answer ≡ permits permitted place set
  none_permits words at empty says =
      covers (λ c. false) (in_words set.words) answer ((λ e c l i. sym (empty c) ∙ says.0 e c l i), (λ all. says.1 (λ c l i. empty c ∙ all c l i)))
      ∙ ap (λ (o : Option Categories). are_covered 1024 (set_has o) (in_words set.words)) (sym at)

pub dominates_as : (high low : Level) (answer : Bool) → IsTrue answer ↔ Dominates high low → answer ≡ dominates high low
dominates_as high low answer says =
    same_truth answer (dominates high low) (λ e. (dominates_is high low).1 (says.0 e)) (λ e. says.1 ((dominates_is high low).0 e))
