-- Which rules are active, by their branches. CIL Reference Guide, "booleanif".
use Rattle.std.specs.Prelude.{ℕ, Bool, true, not, Option, Some, None}
use Rattle.cil_syntax.specs.Expressions.{differ}
use Rattle.cil_conditions.specs.declared.branch.Branch.{Branch}
use Rattle.cil_conditions.specs.Truth.{truth}

-- what is in no branch is active, and what is in one where its condition has the value of the branch
abbrev pub is_active : (ℕ → Bool) → Option Branch → Bool
is_active on None = true
is_active on (Some b) = not (differ (truth on b.condition) b.value)
