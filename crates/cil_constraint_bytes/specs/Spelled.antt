-- The bytes of a constraint, step by step: how the writer goes. This project's profile.
use Rattle.std.specs.Prelude.{ℕ, ◌<◌, ◌^◌, List, [], ◌∷◌, ◌++◌, All, length}
use Rattle.std.specs.Int.{w16, to_be_bytes}
use Rattle.std.specs.List.{flat_map}
use Rattle.cil_constraints.specs.declared.mask.Constraint.{Constraint}
use Rattle.cil_constraints.specs.declared.step.Side.TheVariants as sides
use Rattle.cil_constraints.specs.declared.step.Step.{Step}
use Rattle.cil_constraints.specs.declared.step.Step.TheVariants as steps
use Rattle.cil_constraints.specs.Order.{variable_byte, first_byte, second_byte, equality_byte, relation_byte}

-- how many numbers there are, and these
abbrev pub set_bytes : List ℕ → List ℕ
set_bytes set = to_be_bytes w16 (length set) ++ flat_map (to_be_bytes w16) set

-- the tag of a step, and what follows it up to the next step
abbrev pub step_bytes : Step → List ℕ
step_bytes steps.Not = 2 ∷ []
step_bytes steps.And = 3 ∷ []
step_bytes steps.Or = 4 ∷ []
step_bytes (steps.Compared part equality) = 16 ∷ variable_byte part sides.Source ∷ variable_byte part sides.Target ∷ equality_byte equality ∷ []
step_bytes (steps.Ranked pair relation) = 16 ∷ first_byte pair ∷ second_byte pair ∷ relation_byte relation ∷ []
step_bytes (steps.Inside part side equality set) = 17 ∷ variable_byte part side ∷ equality_byte equality ∷ set_bytes set

-- ---- sizes that have a layout

-- the numbers of a set, and how many there are, have two bytes
pub record IsSmallSet (set : List ℕ) : Type 0 where
  pub few : length set < 2 ^ 16
  pub small : All (λ n. n < 2 ^ 16) set

abbrev pub HasSmallSet : Step → Type 0
HasSmallSet steps.Not = Unit {0}
HasSmallSet steps.And = Unit {0}
HasSmallSet steps.Or = Unit {0}
HasSmallSet (steps.Compared part equality) = Unit {0}
HasSmallSet (steps.Ranked pair relation) = Unit {0}
HasSmallSet (steps.Inside part side equality set) = IsSmallSet set

-- the number of the class has two bytes, and so have those in sets
pub record IsSmall (c : Constraint) : Type 0 where
  pub class : c.class < 2 ^ 16
  pub sets : All HasSmallSet c.expr
