-- Which permissions of a class would change a role that may not change so, by the row of the class. No other crate needs these words.
use Rattle.std.specs.Prelude.{◌≡◌, ◌↔◌, ℕ, List, Contains, slice_get, Some, IsBitSet}
use Rattle.cil_tables.specs.classes.Class.{Class}
use Rattle.cil_tables.specs.declared.tables.Link.{Link}
use Rattle.cil_tables.specs.Meaning.{IsTransition, process}

-- the mask has the bit of this permission, where the class has it, and no other
abbrev pub IsMaskOf : List (List ℕ) → List ℕ → ℕ → Type 0
IsMaskOf permissions name mask = (bit : ℕ) → IsBitSet mask bit ↔ (slice_get permissions bit ≡ Some name)

-- the bit is that of a permission by which a process gets another context
pub record IsTransitionBit (permissions : List (List ℕ)) (bit : ℕ) : Type 0 where
  pub permission : List ℕ
  pub is_permission : slice_get permissions bit ≡ Some permission
  pub transition : IsTransition permission

-- the roles differ, and the one may not change to the other
pub record IsNotLet (role_allows : List Link) (source target : ℕ) : Type 0 where
  pub changes : source ≡ target → ⊥
  pub not_let : Contains role_allows (record { holder = source; held = target }) → ⊥

-- the permission of the bit would make such a change
pub record BarsRow (role_allows : List Link) (row : Class) (source target bit : ℕ) : Type 0 where
  pub of_process : row.name ≡ process
  pub transition : IsTransitionBit row.permissions bit
  pub not_let : IsNotLet role_allows source target
