-- What tables hold of levels: the names of categories and sensitivities from the lowest to the highest, their aliases, which categories
-- go with which sensitivity, and the ranges of users. Which names can be written in a context is this project's profile; the rest is what
-- The SELinux Notebook asks for in "Security Context" and "Multi-Level Security and Multi-Category Security".
use Rattle.std.specs.Prelude.{◌≡◌, ◌⊎◌, ℕ, Bool, true, List, Contains, Some, slice_get}
use Rattle.cil_mls.specs.declared.categories.Categories.{Categories}
use Rattle.cil_mls.specs.declared.level.Level.{Level}
use Rattle.cil_mls.specs.declared.level.Range.{Range}
use Rattle.cil_mls.specs.declared.named.Named.{Named}
use Rattle.cil_mls.specs.Bits.{in_words}
use Rattle.cil_mls.specs.Dominance.{Dominates}
use Rattle.cil_mls.specs.LevelTexts.{IsWithout}
use Rattle.cil_labels.specs.Labels.{IsLabel}

pub record LevelTable : Type 0 where
  pub are_on : Bool
  pub categories : List (List ℕ)
  pub category_aliases : List Named
  pub sensitivities : List (List ℕ)
  pub permitted : List Categories
  pub sensitivity_aliases : List Named
  pub users : List Range

-- a name that can be written in a context: one with a hyphen would end at it, and one with a dot would be two
pub record IsWritable (text : List ℕ) : Type 0 where
  pub no_hyphen : IsWithout 45 text
  pub no_dot : IsWithout 46 text

-- the text names the item at this place: it can be written, and is the name of the item or of an alias of it
pub record NamesPlace (names : List (List ℕ)) (aliases : List Named) (text : List ℕ) (n : ℕ) : Type 0 where
  pub writable : IsWritable text
  pub named : (slice_get names n ≡ Some text) ⊎ Contains aliases (record { name = text; place = n })

-- the sensitivity at this place permits the category at that one
pub record PermitsBy (permitted : List Categories) (n c : ℕ) : Type 0 where
  pub set : Categories
  pub is_set : slice_get permitted n ≡ Some set
  pub has : in_words set.words c ≡ true

-- the text is the type of a context, with the levels of the context behind it where it has some
abbrev pub IsLabelOf : LevelTable → (text kind : List ℕ) → (low high : Level) → Type 0
IsLabelOf t text kind low high =
    IsLabel (t.are_on ≡ true) (NamesPlace t.sensitivities t.sensitivity_aliases) (NamesPlace t.categories t.category_aliases) (PermitsBy t.permitted) text kind low high

-- the user may have these levels: the low one dominates its low level, and its high level dominates the high one
pub record IsCleared (t : LevelTable) (user : ℕ) (low high : Level) : Type 0 where
  pub range : Range
  pub is_range : slice_get t.users user ≡ Some range
  pub from : Dominates low range.low
  pub to : Dominates range.high high
