-- Levels that are the same, and the one level of a text.
use Rattle.std.specs.Prelude.{◌≡◌, ℕ, zero, suc, ◌+◌, ◌*◌, ◌/◌, ◌%◌, ◌^◌, ◌<◌, ◌==◌, List, [], ◌∷◌, length}
use Rattle.std.specs.Int.{bit_at}
use Rattle.std.proofs.Common.{get_or, refl, sym, ◌∙◌, ap, subst, arith}
use Rattle.std.proofs.lemmas.Bool.Decides.{nat_tests}
use Rattle.std.proofs.lemmas.Nat.Bits.{bit_at-lt, same_from_bits_below}
use Rattle.cil_base.specs.Searches.{same_truth}
use Rattle.cil_mls.specs.declared.level.Level.{Level}
use Rattle.cil_mls.specs.Bits.{AreWords, in_words}
use Rattle.cil_mls.specs.Dominance.{AreSame, has}
use Rattle.cil_mls.specs.LevelTexts.{HasCategory, IsLevelText, bare, with_items}
use Rattle.cil_mls.proofs.PartLemmas.{not_parted, parted_once}

module _ (Sensitivity Category : List ℕ → ℕ → Type 0) (same_s : (t : List ℕ) (n m : ℕ) → Sensitivity t n → Sensitivity t m → n ≡ m) where
  pub one_level_of : (text : List ℕ) (l m : Level) → IsLevelText Sensitivity Category text l → IsLevelText Sensitivity Category text m
      → AreSame l m
  one_level_of text l m (bare t k w s f) (bare u j v z g) = record {
    sensitivity = same_s text l.sensitivity m.sensitivity s z;
    categories = λ c b. (λ i. absurd (f c b i), λ i. absurd (g c b i));
  }
  one_level_of text l m (bare t k w s f) (with_items u n i j p z a h) = absurd (not_parted 58 text n i w p)
  one_level_of text l m (with_items u n i j p z a h) (bare t k w s f) = absurd (not_parted 58 text n i w p)
  one_level_of text l m (with_items u n i j p z a h) (with_items t e o k q y b g) =
      let both = parted_once 58 text n e i o p q in record {
        sensitivity = same_s n l.sensitivity m.sensitivity z (subst (λ f. Sensitivity f m.sensitivity) (sym both.0) y);
        categories = λ c less. let there = h c less in let back = g c less in (
          λ x. back.1 (subst (λ items. HasCategory Category items c) both.1 (there.0 x)),
          λ x. there.1 (subst (λ items. HasCategory Category items c) (sym both.1) (back.0 x)),
        );
      }

-- words with the same bits are equal
same_words : (v w : List ℕ) → length v ≡ 16 → length w ≡ 16 → ((i : ℕ) → get_or v i 0 < 2 ^ 64) → ((i : ℕ) → get_or w i 0 < 2 ^ 64)
    → ((c : ℕ) → c < 1024 → in_words v c ≡ in_words w c) → v ≡ w
same_words v w m n few_v few_w same =
    same_lists v w (m ∙ sym n) (λ i l. same_from_bits_below 64 (get_or v i 0) (get_or w i 0) (few_v i) (few_w i) (λ k b.
    let place : (i * 64 + k) / 64 ≡ i = omega (arith, b) in
    let bit : (i * 64 + k) % 64 ≡ k = omega (arith, b) in
    let e : (bit_at (get_or v i 0) k == 1) ≡ (bit_at (get_or w i 0) k == 1) =
    sym (ap (λ j. bit_at (get_or v j 0) ((i * 64 + k) % 64) == 1) place ∙ ap (λ j. bit_at (get_or v i 0) j == 1) bit) ∙ same (i * 64 + k) (omega (arith, b, l, m))
    ∙ ap (λ j. bit_at (get_or w j 0) ((i * 64 + k) % 64) == 1) place ∙ ap (λ j. bit_at (get_or w i 0) j == 1) bit in
    one_bit _ _ (bit_at-lt _ k) (bit_at-lt _ k) e))
  where
    one_bit : (a b : ℕ) → a < 2 → b < 2 → (a == 1) ≡ (b == 1) → a ≡ b
    one_bit a b p q e = grind (arith, nat_tests)

    same_lists : (xs ys : List ℕ) → length xs ≡ length ys → ((i : ℕ) → i < length xs → get_or xs i 0 ≡ get_or ys i 0) → xs ≡ ys
    same_lists [] [] e f = refl
    same_lists [] (y ∷ ys) e f = absurd (omega (arith, e))
    same_lists (x ∷ xs) [] e f = absurd (omega (arith, e))
    same_lists (x ∷ xs) (y ∷ ys) e f = let head : x ≡ y = f zero (omega arith) in ap (λ z. z ∷ xs) head ∙ ap (λ zs. y ∷ zs) (same_lists xs ys (omega (arith, e)) (λ i l. f (suc i) (omega (arith, l))))

-- levels with the same sensitivity and the same categories are equal
pub same_levels : (a b : Level) → AreWords a.categories.words → AreWords b.categories.words → AreSame a b → a ≡ b
same_levels a b p q same =
    let words : a.categories.words ≡ b.categories.words =
    same_words a.categories.words b.categories.words p.len q.len p.fit q.fit (λ c l. same_truth (has a c) (has b c) (same.categories c l).0 (same.categories c l).1) in
    let sensitivity = same.sensitivity in
    λ i. record { sensitivity = sensitivity i; categories = record { words = words i } }
