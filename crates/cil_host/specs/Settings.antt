-- The settings of booleans by names. CIL Reference Guide, "boolean"; The SELinux Notebook, "Booleans"; that a host shows them as the names
-- of those that are on is this project's profile.
use Rattle.std.specs.Prelude.{◌≡◌, ◌↔◌, ℕ, suc, Bool, true, if◌then◌else◌, List, [], ◌∷◌, Contains}
use Rattle.std.specs.List.{list_any}
use Rattle.std.specs.List.Sorted.{IsStrictlySortedBy}
use Rattle.cil_base.specs.Lists.{text_cmp}
use Rattle.cil_syntax.specs.declared.kind.Kind.TheVariants as kinds
use Rattle.cil_syntax.specs.Spelling.{same_bytes}
use Rattle.cil_table_bytes.specs.macros.Item.{Item, OptSet}
use Rattle.cil_table_bytes.specs.conditions.Conditions.{Settings}
use Rattle.cil_table_bytes.specs.optionals.Policy.{ArePolicy}
use Rattle.cil_table_bytes.specs.tables.Booleans.{is_default_on}
use Rattle.cil_table_bytes.specs.tables.Named.{IsNameOf}

-- a boolean is on where its name is one of these
abbrev pub on_in : List (List ℕ) → Settings
on_in names name = list_any (same_bytes name) names

-- of some names those whose number is on, in their order; the first has this number
unfoldable pub on_from : ℕ → (ℕ → Bool) → List (List ℕ) → List (List ℕ)
on_from n on [] = []
on_from n on (name ∷ names) = if on n then name ∷ on_from (suc n) on names else on_from (suc n) on names

-- of some names those whose place is on, in their order
abbrev pub on_names : (ℕ → Bool) → List (List ℕ) → List (List ℕ)
on_names on names = on_from 0 on names

-- the name is there or not, by the value, and all others are as they were
pub record IsSetTo (old : List (List ℕ)) (name : List ℕ) (value : Bool) (new : List (List ℕ)) : Type 0 where
  pub rising : IsStrictlySortedBy text_cmp new
  pub set : Contains new name ↔ (value ≡ true)
  pub others : (other : List ℕ) → (other ≡ name → ⊥) → Contains new other ↔ Contains old other

-- the modules declare a boolean of this qualified name, and an enabled statement says that it is on at first
pub record IsDefaultOn (modules : List (List ℕ)) (name : List ℕ) : Type 0 where
  pub items : List Item
  pub enabled : OptSet
  pub policy : ArePolicy modules items enabled
  pub declared : IsNameOf items enabled kinds.Boolean name
  pub is_on : is_default_on items enabled name ≡ true
