-- How the range of a context is read. No other crate needs these words.
use Rattle.std.specs.Prelude.{◌≡◌, ℕ, true, List}
use Rattle.cil_mls.specs.declared.level.Level.{Level}
use Rattle.cil_mls.specs.LevelTexts.{IsRangeText}
use Rattle.cil_labels.specs.Labels.{IsSoundRange}
use Rattle.cil_labels.specs.LevelTable.{LevelTable, NamesPlace, PermitsBy}

-- the range is sound by the table
abbrev pub IsSoundIn : LevelTable → (low high : Level) → Type 0
IsSoundIn t low high = IsSoundRange (t.are_on ≡ true) (NamesPlace t.sensitivities t.sensitivity_aliases) (NamesPlace t.categories t.category_aliases) (PermitsBy t.permitted) low high

-- the text is that of the range, which is sound
pub record IsSoundText (t : LevelTable) (text : List ℕ) (low high : Level) : Type 0 where
  pub is_text : IsRangeText (NamesPlace t.sensitivities t.sensitivity_aliases) (NamesPlace t.categories t.category_aliases) text low high
  pub sound : IsSoundIn t low high

-- and of no other
pub record IsOneSound (t : LevelTable) (text : List ℕ) (low high : Level) : Type 0 where
  pub is : IsSoundText t text low high
  pub only : (l h : Level) → IsSoundText t text l h → (low ≡ l) × (high ≡ h)
