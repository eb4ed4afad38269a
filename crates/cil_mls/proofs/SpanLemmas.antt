-- Texts that are no items.
use Rattle.std.specs.Prelude.{◌≡◌, ◌↔◌, ℕ, ◌<◌, ◌≤◌, Bool, true, false, IsTrue, List}
use Rattle.std.proofs.Common.{sym, ◌∙◌, subst, inl, inr, arith}
use Rattle.std.proofs.lemmas.Bool.{cases_lt}
use Rattle.cil_mls.specs.LevelTexts.{IsParted, IsWithout, one, from_to}
use Rattle.cil_mls.specs.Reading.{IsNoItem}
use Rattle.cil_mls.proofs.PartLemmas.{not_parted, parted_once}

-- what is not upwards leads down
pub before : (first last : ℕ) (r : Bool) → IsTrue r ↔ (first ≤ last) → r ≡ false → last < first
before first last r is e = elim (cases_lt last first) [
  | inl less ↦ less
  | inr ge ↦ absurd (let t : r ≡ true = is.1 ge in let f : false ≡ true = sym e ∙ t in cc)
]

module _ (Category : List ℕ → ℕ → Type 0) where
  -- a text that is no name, or whose first or second part is none, is no item
  pub no_single : (text : List ℕ) → IsWithout 46 text → ((n : ℕ) → Category text n → ⊥) → IsNoItem Category text
  no_single text w none c d (one t x v p) = none c p
  no_single text w none c d (from_to t l h x y p q r o) = not_parted 46 text l h w p

  pub no_low : (text low high : List ℕ) → IsParted 46 text low high → ((n : ℕ) → Category low n → ⊥) → IsNoItem Category text
  no_low text low high p none c d (one t x v q) = not_parted 46 text low high v p
  no_low text low high p none c d (from_to t l h x y q r s o) = none c (subst (λ f. Category f c) (sym (parted_once 46 text low l high h p q).0) r)

  pub no_high : (text low high : List ℕ) → IsParted 46 text low high → ((n : ℕ) → Category high n → ⊥) → IsNoItem Category text
  no_high text low high p none c d (one t x v q) = not_parted 46 text low high v p
  no_high text low high p none c d (from_to t l h x y q r s o) = none d (subst (λ f. Category f d) (sym (parted_once 46 text low l high h p q).1) s)

  module _ (same_number : (t : List ℕ) (n m : ℕ) → Category t n → Category t m → n ≡ m) where
    -- nor is one whose second category is before the first
    pub not_upwards : (text low high : List ℕ) (a b : ℕ) → IsParted 46 text low high → Category low a → Category high b → b < a → IsNoItem Category text
    not_upwards text low high a b p u v l c d (one t x w q) = not_parted 46 text low high w p
    not_upwards text low high a b p u v l c d (from_to t f h x y q r s o) =
        let both = parted_once 46 text low f high h p q in
        let k = same_number low a c u (subst (λ z. Category z c) (sym both.0) r) in
        let m = same_number high b d v (subst (λ z. Category z d) (sym both.1) s) in
        omega (arith, k, m, l, o)
