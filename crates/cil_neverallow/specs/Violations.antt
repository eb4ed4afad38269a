-- The faults of forbidden rules, by numbers.
use Rattle.std.specs.Prelude.{◌≡◌, ℕ, List, [], ◌∷◌, ◌++◌, decimal, get_or, map, Contains, Option, None, Some, slice_get}
use Rattle.cil_faults.specs.declared.code.FaultCode.TheVariants as causes
use Rattle.cil_faults.specs.declared.fault.Fault.{Fault}
use Rattle.cil_faults.specs.declared.spot.Spot.{Spot}
use Rattle.cil_faults.specs.Reported.{fault_at}
use Rattle.cil_macros.specs.Item.{Item}
use Rattle.cil_index.specs.classes.Class.{Class}
use Rattle.cil_index.specs.rules.Kept.{rule_named}
use Rattle.cil_index.specs.rules.Rule.{Rule}
use Rattle.cil_neverallow.specs.declared.overlap.Overlap.{Overlap}
use Rattle.cil_neverallow.specs.declared.forbidden.View.{View}
use Rattle.cil_neverallow.specs.Overlaps.{IsLeastOf, IsOverlap}
use Rattle.cil_neverallow.specs.Stated.{Stated}

-- ---- the names of numbers

abbrev pub name_of_row : Option Class → List ℕ
name_of_row None = []
name_of_row (Some row) = row.name

abbrev pub permission_of_row : Option Class → ℕ → List ℕ
permission_of_row None bit = []
permission_of_row (Some row) bit = get_or row.permissions bit []

-- the word of the fault: module and place of the allow statement, and then the names of the overlap
abbrev pub told_by : View → Spot → Overlap → List ℕ
told_by v at o =
    decimal at.«module» ++ (58 ∷ decimal at.at) ++ (58 ∷ get_or v.types.now o.source []) ++ (58 ∷ get_or v.types.now o.target [])
    ++ (58 ∷ name_of_row (slice_get v.classes.now o.class)) ++ (58 ∷ permission_of_row (slice_get v.classes.now o.class) o.bit)

-- ---- the faults

-- the rules of a statement
abbrev pub rules_by : View → Stated → List Rule
rules_by v st = map (rule_named [] v.sets.now) st.rules

-- a neverallow statement and an allow statement have an overlap
pub record IsPair (at : ℕ → Item) (v : View) (n a : Stated) (f : Fault) : Type 0 where
  pub overlap : Overlap
  pub least : IsLeastOf (IsOverlap (rules_by v n) (rules_by v a)) overlap
  pub is : f ≡ fault_at causes.NeverAllow (at n.place).at (at n.place).space (told_by v (at a.place).at overlap)

-- a neverallow statement has one with some of the allow statements
pub record IsOne (at : ℕ → Item) (v : View) (n : Stated) (allowed : List Stated) (f : Fault) : Type 0 where
  pub other : Stated
  pub is_other : Contains allowed other
  pub meet : IsPair at v n other f

-- some of the neverallow statements has
pub record IsViolation (at : ℕ → Item) (v : View) (forbidden allowed : List Stated) (f : Fault) : Type 0 where
  pub statement : Stated
  pub is_statement : Contains forbidden statement
  pub meet : IsOne at v statement allowed f

-- each rule counts always: it is in no branch
abbrev pub AreAlways : List Rule → Type 0
AreAlways rules = (r : Rule) → Contains rules r → r.branch ≡ None

-- each of the rules of the statements is in the list
abbrev pub AreAmong : View → List Stated → List Rule → Type 0
AreAmong v sts rules = (st : Stated) (r : Rule) → Contains sts st → Contains (rules_by v st) r → Contains rules r
