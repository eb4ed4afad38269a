-- The rules of a policy, by kind.
use Rattle.std.specs.Prelude.{List, map}
use Rattle.cil_rules.specs.conditions.Branch.{Branch}
use Rattle.cil_rules.specs.Rule.{Rule}
use Rattle.cil_index.specs.declared.indexed.Indexed.{Indexed}
use Rattle.cil_index.specs.Entries.{IsIndex}
use Rattle.cil_index.specs.Kept.{rule_of}
use Rattle.cil_index.specs.Layout.{IsOrder, in_order}
use Rattle.std.specs.Prelude.{ℕ}

-- the rules that allow, those by which the use of a permission is recorded, and those by which its denial is not
pub record RuleSections : Type 0 where
  pub allow : List Rule
  pub auditallow : List Rule
  pub dontaudit : List Rule

-- the rules of one kind in the order of the table, by their records
abbrev pub rules_of : List Branch → List (List ℕ) → Indexed → List Rule
rules_of branches sets r = map (rule_of branches sets) (in_order r.records.items r.order.items)

-- their index finds them, and their order has each of them
pub record IsIndexed (sets : List (List ℕ)) (r : Indexed) : Type 0 where
  pub index : IsIndex sets r.records.items r.index
  pub order : IsOrder r.records.items r.order.items
