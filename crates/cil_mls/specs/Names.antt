-- The names that texts of levels may use, and what a text is by these.
use Rattle.std.specs.Prelude.{◌≡◌, ℕ, ◌<◌, List, All, Contains}
use Rattle.std.specs.declared.cmp.Ordering.{Ordering}
use Rattle.std.specs.Ordering.{on}
use Rattle.std.specs.List.Sorted.{IsStrictlySortedBy}
use Rattle.cil_base.specs.Lists.{text_cmp}
use Rattle.cil_mls.specs.declared.named.Named.{Named}
use Rattle.cil_mls.specs.declared.level.Level.{Level}
use Rattle.cil_mls.specs.declared.level.Range.{Range}
use Rattle.cil_mls.specs.LevelTexts.{IsLevelText, IsRangeText}

-- the name stands for the place
pub record IsNamed (names : List Named) (text : List ℕ) (n : ℕ) : Type 0 where
  pub row : Named
  pub is_row : Contains names row
  pub named : row.name ≡ text
  pub placed : row.place ≡ n

abbrev pub name_of : Named → List ℕ
name_of n = n.name

-- the byte order of names
abbrev pub named_cmp : Named → Named → Ordering
named_cmp = on name_of text_cmp

-- the names rise, so each is there once, and their places are below a count
pub record AreNames (count : ℕ) (names : List Named) : Type 0 where
  pub rising : IsStrictlySortedBy named_cmp names
  pub within : All (λ x. x.place < count) names

-- the names of both kinds
pub record NamesOfLevels : Type 0 where
  pub sensitivities : List Named
  pub categories : List Named

-- the text is that of the level
abbrev pub IsLevelOf : NamesOfLevels → List ℕ → Level → Type 0
IsLevelOf ns text l = IsLevelText (IsNamed ns.sensitivities) (IsNamed ns.categories) text l

-- the text is that of the range
abbrev pub IsRangeOf : NamesOfLevels → List ℕ → Range → Type 0
IsRangeOf ns text r = IsRangeText (IsNamed ns.sensitivities) (IsNamed ns.categories) text r.low r.high
