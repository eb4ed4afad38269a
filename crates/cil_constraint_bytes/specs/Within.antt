-- Which constraints have a layout, said of their class, mask and steps. This project's profile.
use Rattle.std.specs.Prelude.{◌≡◌, ℕ, ◌<◌, ◌^◌, true, get_or, length}
use Rattle.std.specs.List.{AllByRecursion}
use Rattle.cil_format.specs.Fields.{set}
use Rattle.cil_constraints.specs.declared.mask.Constraint.{Constraint}
use Rattle.cil_constraints.specs.declared.step.Part.{Part}
use Rattle.cil_constraints.specs.declared.step.Part.TheVariants as parts
use Rattle.cil_constraints.specs.declared.step.Step.{Step}
use Rattle.cil_constraints.specs.declared.step.Step.TheVariants as steps
use Rattle.cil_constraints.specs.Expressions.{IsExpression}
use Rattle.cil_constraint_bytes.specs.Layout.{Limits}

-- how many items there are of a part
abbrev pub count_of : Limits → Part → ℕ
count_of limits parts.User = limits.users
count_of limits parts.Role = limits.roles
count_of limits parts.Kind = limits.types

-- levels are compared only where the policy has them, and a set is a rising list of numbers that there are
abbrev pub IsWithin : Limits → Step → Type 0
IsWithin limits steps.Not = Unit {0}
IsWithin limits steps.And = Unit {0}
IsWithin limits steps.Or = Unit {0}
IsWithin limits (steps.Compared part equality) = Unit {0}
IsWithin limits (steps.Ranked pair relation) = limits.are_on ≡ true
IsWithin limits (steps.Inside part side equality numbers) = (set (count_of limits part)).Fits numbers

-- a constraint on some permission of a class, with an expression
pub record IsInRange (limits : Limits) (c : Constraint) : Type 0 where
  pub class : c.class < length limits.widths
  pub number : c.class < 2 ^ 16
  pub mask : c.mask < 2 ^ get_or limits.widths c.class 0
  pub bits : c.mask < 2 ^ 32
  pub some : 0 < c.mask
  pub one : IsExpression c.expr
  pub steps : AllByRecursion (IsWithin limits) c.expr
