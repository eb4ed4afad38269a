-- What is true of the levels of every policy.
use Rattle.std.specs.Prelude.{◌≡◌, ◌↔◌, ◌⊎◌, ℕ, true, List, Result, Some, slice_get}
use Rattle.cil_faults.specs.Refusal.{Answers}
use Rattle.cil_faults.specs.declared.failure.Failure.{Failure}
use Rattle.cil_faults.specs.declared.fault.Fault.{Fault}
use Rattle.cil_syntax.specs.declared.kind.Kind.TheVariants as kinds
use Rattle.cil_macros.specs.Item.{Item, OptSet}
use Rattle.cil_names.specs.Declarations.{Declared, Symbol}
use Rattle.cil_known.specs.declared.known.Known.{Known}
use Rattle.cil_known.specs.Known.{IsNumbered, enabled_in}
use Rattle.cil_mls.specs.declared.level.Level.{Level}
use Rattle.cil_mls.specs.OrderFaults.{OrderFault, Switches}
use Rattle.cil_ranges.specs.declared.levels.Levels.{Levels}
use Rattle.cil_ranges.specs.Levels.{Ground}
use Rattle.cil_ranges.specs.Made.{IsAnswered}
use Rattle.cil_labels.specs.LevelTable.{IsCleared, IsLabelOf, LevelTable}
use Rattle.cil_level_rows.specs.NoLevels.{HasNone, empty_table}
use Rattle.cil_level_rows.specs.Rows.{IsClearedBy, IsLabelBy, IsLevelTable, IsLevelTableOver}
use Rattle.cil_level_rows.specs.Steps.{AreLevelsOf, LevelStep}

-- a policy has one table of levels, where each number of a user is that of a declared one
abbrev pub HasOneLevelTable : Type 0
HasOneLevelTable =
    (xs : List Item) (s : OptSet) (users : List (List ℕ)) → ((n : ℕ) (name : List ℕ) → slice_get users n ≡ Some name → (user : Symbol) × Declared xs s kinds.User user × IsNumbered users user n)
    → (t u : LevelTable) → IsLevelTable xs s users t → IsLevelTable xs s users u → t ≡ u

-- by the table texts have the labels that they have by the policy
abbrev pub ReadsAlike : Type 0
ReadsAlike =
    (xs : List Item) (s : OptSet) (g : Ground) (users : List (List ℕ)) (t : LevelTable) → IsLevelTableOver xs s g users t
    → (text kind : List ℕ) (low high : Level) → IsLabelOf t text kind low high ↔ IsLabelBy xs s g text kind low high

-- by the table users may have the levels that they may have by the policy
abbrev pub ClearsAlike : Type 0
ClearsAlike =
    (xs : List Item) (s : OptSet) (g : Ground) (users : List (List ℕ)) (t : LevelTable) → IsLevelTableOver xs s g users t → Switches xs s true
    → (user : Symbol) (n : ℕ) → Declared xs s kinds.User user → IsNumbered users user n → (low high : Level) → IsCleared t n low high ↔ IsClearedBy s g user low high

-- nothing is wrong with the levels of a policy that says nothing of levels
abbrev pub NothingIsWrong : Type 0
NothingIsWrong = (xs : List Item) (s : OptSet) → HasNone xs → (f : Fault) → (OrderFault xs s f ⊎ LevelStep xs s f) → ⊥

-- and it has the empty table
abbrev pub HasEmptyTable : Type 0
HasEmptyTable = (xs : List Item) (s : OptSet) (users : List (List ℕ)) → HasNone xs → IsLevelTable xs s users empty_table

-- levels, or what is wrong with them, are answered by the one ground of the policy: as every step answers
abbrev pub LevelsAnswer : Type 0
LevelsAnswer = (k : Known) (xs : List Item) (r : Result Levels Failure) → IsAnswered k xs r → Answers (AreLevelsOf k xs) (LevelStep xs (enabled_in k)) r
