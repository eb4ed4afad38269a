-- Levels and ranges as they are read: which text is one, and which is none.
use Rattle.std.specs.Prelude.{◌≡◌, ℕ, true, false, List}
use Rattle.std.proofs.Common.{sym, ◌∙◌, subst}
use Rattle.cil_mls.specs.Bits.{in_words}
use Rattle.cil_mls.specs.declared.level.Level.{Level}
use Rattle.cil_mls.specs.LevelTexts.{AreItems, IsLevelText, IsParted, IsRangeText, IsWithout, bare, with_items, one_level, two_levels}
use Rattle.cil_mls.specs.Reading.{AreJust}
use Rattle.cil_mls.proofs.PartLemmas.{not_parted, parted_once}

module _ (Sensitivity Category : List ℕ → ℕ → Type 0) where
  -- the two forms of a level
  pub bare_level : (text : List ℕ) (l : Level) → IsWithout 58 text → Sensitivity text l.sensitivity → ((c : ℕ) → in_words l.categories.words c ≡ false) → IsLevelText Sensitivity Category text l
  bare_level text l w s none = bare text l w s (λ c m t. let f = none c in absurd (let g : false ≡ true = sym f ∙ t in cc))

  pub full_level : (text name items : List ℕ) (l : Level) → IsParted 58 text name items → Sensitivity name l.sensitivity → AreJust Category items l.categories.words → IsLevelText Sensitivity Category text l
  full_level text name items l p s j = with_items text name items l p s j.are_items j.just

  -- a text in which a name, or an item, is none is no level
  pub no_bare : (text : List ℕ) → IsWithout 58 text → ((n : ℕ) → Sensitivity text n → ⊥) → (l : Level) → IsLevelText Sensitivity Category text l → ⊥
  no_bare text w none l (bare t m v s f) = none l.sensitivity s
  no_bare text w none l (with_items t n i m p s a j) = not_parted 58 text n i w p

  pub no_name : (text name items : List ℕ) → IsParted 58 text name items → ((n : ℕ) → Sensitivity name n → ⊥) → (l : Level) → IsLevelText Sensitivity Category text l → ⊥
  no_name text name items p none l (bare t m v s f) = not_parted 58 text name items v p
  no_name text name items p none l (with_items t n i m q s a j) = none l.sensitivity (subst (λ z. Sensitivity z l.sensitivity) (sym (parted_once 58 text name n items i p q).0) s)

  pub no_items : (text name items : List ℕ) → IsParted 58 text name items → (AreItems Category items → ⊥) → (l : Level) → IsLevelText Sensitivity Category text l → ⊥
  no_items text name items p none l (bare t m v s f) = not_parted 58 text name items v p
  no_items text name items p none l (with_items t n i m q s a j) = none (subst (AreItems Category) (sym (parted_once 58 text name n items i p q).1) a)

  -- a text in which a level is none is no range
  pub no_level_at_all : (text : List ℕ) → IsWithout 45 text → ((l : Level) → IsLevelText Sensitivity Category text l → ⊥) → (l h : Level) → IsRangeText Sensitivity Category text l h → ⊥
  no_level_at_all text w none l h (one_level t m v is) = none l is
  no_level_at_all text w none l h (two_levels t f r low high p a b) = not_parted 45 text f r w p

  pub no_low_level : (text first rest : List ℕ) → IsParted 45 text first rest → ((l : Level) → IsLevelText Sensitivity Category first l → ⊥) → (l h : Level) → IsRangeText Sensitivity Category text l h → ⊥
  no_low_level text first rest p none l h (one_level t m v is) = not_parted 45 text first rest v p
  no_low_level text first rest p none l h (two_levels t f r low high q a b) =
      none l (subst (λ z. IsLevelText Sensitivity Category z l) (sym (parted_once 45 text first f rest r p q).0) a)

  pub no_high_level : (text first rest : List ℕ) → IsParted 45 text first rest → ((l : Level) → IsLevelText Sensitivity Category rest l → ⊥) → (l h : Level) → IsRangeText Sensitivity Category text l h → ⊥
  no_high_level text first rest p none l h (one_level t m v is) = not_parted 45 text first rest v p
  no_high_level text first rest p none l h (two_levels t f r low high q a b) =
      none h (subst (λ z. IsLevelText Sensitivity Category z h) (sym (parted_once 45 text first f rest r p q).1) b)
