-- The levels of a context, which stand behind its user and its role: whether it has some, and which. The SELinux Notebook, "Security
-- Context" and "Multi-Level Security and Multi-Category Security".
use Rattle.std.specs.Prelude.{ℕ, ◌<◌, List}
use Rattle.cil_mls.specs.declared.level.Level.{Level}
use Rattle.cil_mls.specs.Bits.{AreWords}
use Rattle.cil_mls.specs.Dominance.{Dominates, IsIn, no_level}
use Rattle.cil_mls.specs.LevelTexts.{IsParted, IsRangeText, IsWithout}

-- the text begins with two parts, each with a colon behind it
pub record BeginsWith (text first second rest : List ℕ) : Type 0 where
  pub behind : List ℕ
  pub of_first : IsParted 58 text first behind
  pub of_second : IsParted 58 behind second rest

-- whatever names mean and sensitivities permit, and whether levels are on
module _ (On : Type 0) (IsSensitivity IsCategory : List ℕ → ℕ → Type 0) (Permits : ℕ → ℕ → Type 0) where
  -- a level of which each category is permitted to its sensitivity
  pub record IsSoundLevel (l : Level) : Type 0 where
    pub words : AreWords l.categories.words
    pub permitted : (c : ℕ) → c < 1024 → IsIn l c → Permits l.sensitivity c

  -- two such levels, of which the high one dominates the low one
  pub record IsSoundRange (low high : Level) : Type 0 where
    pub of_low : IsSoundLevel low
    pub of_high : IsSoundLevel high
    pub dominates : Dominates high low

  -- the text is the type of a context, and where levels are on, a colon and a sound range behind it
  pub data IsLabel : (text kind : List ℕ) → (low high : Level) → Type 0 where
    plain : (kind : List ℕ) → (On → ⊥) → IsWithout 58 kind → IsLabel kind kind no_level no_level
    levelled : (text kind range : List ℕ) (low high : Level) → On → IsParted 58 text kind range → IsRangeText IsSensitivity IsCategory range low high
        → IsSoundRange low high → IsLabel text kind low high
