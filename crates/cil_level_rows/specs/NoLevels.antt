-- The statements of levels, and what there is of levels where a policy has none of these. CIL Reference Guide, "Multi-Level Security
-- Labeling Statements".
use Rattle.std.specs.Prelude.{◌≡◌, Bool, true, false, List, [], Contains}
use Rattle.cil_syntax.specs.declared.kind.Keyword.{Keyword}
use Rattle.cil_syntax.specs.declared.kind.Keyword.TheVariants as keywords
use Rattle.cil_macros.specs.Item.{Item}
use Rattle.cil_ranges.specs.levels_crate.Values.{Values}
use Rattle.cil_ranges.specs.Levels.{Ground}
use Rattle.cil_labels.specs.LevelTable.{LevelTable}

-- the statement says something of levels; a call may have levels as arguments
abbrev pub is_of_levels : Keyword → Bool
is_of_levels keywords.Sensitivity = true
is_of_levels keywords.SensitivityAlias = true
is_of_levels keywords.SensitivityAliasActual = true
is_of_levels keywords.SensitivityOrder = true
is_of_levels keywords.SensitivityCategory = true
is_of_levels keywords.Category = true
is_of_levels keywords.CategoryAlias = true
is_of_levels keywords.CategoryAliasActual = true
is_of_levels keywords.CategoryOrder = true
is_of_levels keywords.CategorySet = true
is_of_levels keywords.Mls = true
is_of_levels keywords.Level = true
is_of_levels keywords.LevelRange = true
is_of_levels keywords.UserLevel = true
is_of_levels keywords.UserRange = true
is_of_levels keywords.RangeTransition = true
is_of_levels keywords.Call = true
is_of_levels keyword = false

-- none of these is such a statement
abbrev pub HasNone : List Item → Type 0
HasNone xs = (x : Item) → Contains xs x → is_of_levels x.keyword ≡ false

-- no word, range and set has a category
abbrev pub no_values : Values
no_values = record { has = λ w c. false; span = λ ts c. false; sets = λ a c. false }

-- these statements, without sensitivities and categories
abbrev pub empty_ground : List Item → Ground
empty_ground xs = record { items = xs; sensitivities = []; categories = []; values = no_values }

-- levels are off, and there are none
abbrev pub empty_table : LevelTable
empty_table = record {
  are_on = false;
  categories = [];
  category_aliases = [];
  sensitivities = [];
  permitted = [];
  sensitivity_aliases = [];
  users = [];
}
