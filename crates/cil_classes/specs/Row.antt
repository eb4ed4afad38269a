-- The row of a class in the tables: its permissions in byte order, at most 32. This project's profile.
use Rattle.std.specs.Prelude.{ℕ, ◌≤◌, length, List, Contains}
use Rattle.std.specs.Ordering.{on}
use Rattle.std.specs.declared.cmp.Ordering.{Ordering}
use Rattle.std.specs.List.Sorted.{IsStrictlySortedBy}
use Rattle.cil_base.specs.Lists.{text_cmp}
use Rattle.cil_classes.specs.declared.row.Class.{Class}

-- how many permissions a class may have
abbrev pub most_permissions : ℕ
most_permissions = 32

-- classes stand in byte order of their names
abbrev pub class_cmp : Class → Class → Ordering
class_cmp = on (λ c. c.name) text_cmp

-- a class's permissions rise, and a mask has a bit for each
pub record IsOrderlyClass (c : Class) : Type 0 where
  pub permissions : IsStrictlySortedBy text_cmp c.permissions
  pub few : length c.permissions ≤ most_permissions

-- each class has its permissions in order, and not too many
abbrev pub AreOrderlyRows : List Class → Type 0
AreOrderlyRows rows = (row : Class) → Contains rows row → IsOrderlyClass row
