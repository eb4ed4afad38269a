-- The bytes in front of a step's set, one by one, for a comparison of steps. No other crate needs these words.
use Rattle.std.specs.Prelude.{ℕ, List, []}
use Rattle.std.specs.Cmp.{IsTotalOrder}
use Rattle.std.proofs.lemmas.Cmp.{nat_list_cmp_total, on_total}
use Rattle.cil_constraints.specs.declared.step.Side.TheVariants as sides
use Rattle.cil_constraints.specs.declared.step.Step.{Step}
use Rattle.cil_constraints.specs.declared.step.Step.TheVariants as steps
use Rattle.cil_constraints.specs.Order.{equality_byte, first_byte, relation_byte, second_byte, step_cmp, step_fields, variable_byte}

abbrev pub tag_of : Step → ℕ
tag_of steps.Not = 2
tag_of steps.And = 3
tag_of steps.Or = 4
tag_of (steps.Compared part equality) = 16
tag_of (steps.Ranked pair relation) = 16
tag_of (steps.Inside part side equality set) = 17

-- the byte behind the tag; 0 where there is none
abbrev pub second_of : Step → ℕ
second_of steps.Not = 0
second_of steps.And = 0
second_of steps.Or = 0
second_of (steps.Compared part equality) = variable_byte part sides.Source
second_of (steps.Ranked pair relation) = first_byte pair
second_of (steps.Inside part side equality set) = variable_byte part side

abbrev pub third_of : Step → ℕ
third_of steps.Not = 0
third_of steps.And = 0
third_of steps.Or = 0
third_of (steps.Compared part equality) = variable_byte part sides.Target
third_of (steps.Ranked pair relation) = second_byte pair
third_of (steps.Inside part side equality set) = equality_byte equality

-- 0 also where a set is there
abbrev pub fourth_of : Step → ℕ
fourth_of steps.Not = 0
fourth_of steps.And = 0
fourth_of steps.Or = 0
fourth_of (steps.Compared part equality) = equality_byte equality
fourth_of (steps.Ranked pair relation) = relation_byte relation
fourth_of (steps.Inside part side equality set) = 0

-- the set behind them; no member where there is none
abbrev pub set_in : Step → List ℕ
set_in steps.Not = []
set_in steps.And = []
set_in steps.Or = []
set_in (steps.Compared part equality) = []
set_in (steps.Ranked pair relation) = []
set_in (steps.Inside part side equality set) = set

-- any two steps have an order
pub step_total : IsTotalOrder step_cmp
step_total = on_total step_fields nat_list_cmp_total
