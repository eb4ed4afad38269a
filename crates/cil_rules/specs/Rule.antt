-- A rule of a table, by numbers: permissions of one class, from source types to what it reaches. The SELinux Notebook, "Access Vector
-- Rules".
use Rattle.std.specs.Prelude.{ℕ, List, Option}
use Rattle.cil_conditions.specs.declared.branch.Branch.{Branch}

-- what a rule reaches: types, or the source type itself
pub data Target : Type 0 where
  Types : List ℕ → Target
  Itself : Target

-- bit i of the mask is the i-th permission of the class. A rule counts always, or where its condition has the value of its branch
pub record Rule : Type 0 where
  pub branch : Option Branch
  pub source : List ℕ
  pub target : Target
  pub class : ℕ
  pub mask : ℕ
