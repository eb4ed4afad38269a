-- The fields of constraints as tables write them, and the order of constraints. This project's profile.
use Rattle.std.specs.Prelude.{ℕ, List, [], ◌∷◌, length}
use Rattle.std.specs.Cmp.{IsTotalOrder}
use Rattle.std.specs.Cmp.Lexicographic.{slice_cmp}
use Rattle.std.specs.Ordering.{nat_cmp, on, then_cmp}
use Rattle.std.specs.declared.cmp.Ordering.{Ordering}
use Rattle.std.proofs.lemmas.Cmp.{lists_total, nat_cmp_total, nat_list_cmp_total, on_total, then_total}
use Rattle.cil_base.specs.Lists.{text_cmp}
use Rattle.cil_constraints.specs.declared.mask.Constraint.{Constraint}
use Rattle.cil_constraints.specs.declared.step.Part.{Part}
use Rattle.cil_constraints.specs.declared.step.Part.TheVariants as parts
use Rattle.cil_constraints.specs.declared.step.Side.{Side}
use Rattle.cil_constraints.specs.declared.step.Side.TheVariants as sides
use Rattle.cil_constraints.specs.declared.step.Equality.{Equality}
use Rattle.cil_constraints.specs.declared.step.Equality.TheVariants as equalities
use Rattle.cil_constraints.specs.declared.step.LevelPair.{LevelPair}
use Rattle.cil_constraints.specs.declared.step.Relation.{Relation}
use Rattle.cil_constraints.specs.declared.step.Relation.TheVariants as relations
use Rattle.cil_constraints.specs.declared.step.Step.{Step}
use Rattle.cil_constraints.specs.declared.step.Step.TheVariants as steps
use Rattle.cil_constraints.specs.Truth.{first_of, second_of}

-- u1 0, u2 1, r1 2, r2 3, t1 4, t2 5
abbrev pub variable_byte : Part → Side → ℕ
variable_byte parts.User sides.Source = 0
variable_byte parts.User sides.Target = 1
variable_byte parts.Role sides.Source = 2
variable_byte parts.Role sides.Target = 3
variable_byte parts.Kind sides.Source = 4
variable_byte parts.Kind sides.Target = 5

-- l1 6, l2 7, h1 8, h2 9
abbrev pub first_byte : LevelPair → ℕ
first_byte pair = first_of pair 6 8 7 9

abbrev pub second_byte : LevelPair → ℕ
second_byte pair = second_of pair 6 8 7 9

abbrev pub equality_byte : Equality → ℕ
equality_byte equalities.Equal = 0
equality_byte equalities.Different = 1

abbrev pub relation_byte : Relation → ℕ
relation_byte relations.Equal = 0
relation_byte relations.Different = 1
relation_byte relations.Dominates = 2
relation_byte relations.DominatedBy = 3
relation_byte relations.Incomparable = 4

-- the tag of a step, and what follows it
abbrev pub step_fields : Step → List ℕ
step_fields steps.Not = 2 ∷ []
step_fields steps.And = 3 ∷ []
step_fields steps.Or = 4 ∷ []
step_fields (steps.Compared part equality) = 16 ∷ variable_byte part sides.Source ∷ variable_byte part sides.Target ∷ equality_byte equality ∷ []
step_fields (steps.Ranked pair relation) = 16 ∷ first_byte pair ∷ second_byte pair ∷ relation_byte relation ∷ []
step_fields (steps.Inside part side equality set) = 17 ∷ variable_byte part side ∷ equality_byte equality ∷ length set ∷ set

abbrev pub step_cmp : Step → Step → Ordering
step_cmp = on step_fields text_cmp

-- by class, mask and steps: so the constraints on a class stand together, and equal ones stand beside one another
abbrev pub constraint_cmp : Constraint → Constraint → Ordering
constraint_cmp = then_cmp (then_cmp (on (λ c. c.class) nat_cmp) (on (λ c. c.mask) nat_cmp)) (on (λ c. c.expr) (slice_cmp step_cmp))

-- any two constraints have an order
pub constraint_total : IsTotalOrder constraint_cmp
constraint_total =
    then_total (then_total (on_total (λ c. c.class) nat_cmp_total) (on_total (λ c. c.mask) nat_cmp_total))
    (on_total (λ c. c.expr) (lists_total (on_total step_fields nat_list_cmp_total)))
