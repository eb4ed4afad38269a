use Rattle.std.proofs.Common.{take}
use Rattle.std.specs.Prelude.{◌↔◌, ◌⊎◌, Contains}
use Rattle.cil_faults.specs.declared.fault.Fault.{Fault}
use Rattle.cil_macros.specs.Items.{item_at}
use Rattle.cil_neverallow.specs.Stated.{stated_of}
use Rattle.cil_neverallow.specs.Violations.{IsOne}
use Rattle.cil_neverallow.proofs.forbidden.push_pairs.Given as goal

abbrev pub invariant-loop-number : goal.invariant-loop-number
invariant-loop-number l = (f : Fault) → Contains l.faults.items f ↔ (Contains l.initial.faults.items f ⊎ IsOne (item_at l.instances) l.view (stated_of l.statement) (take l.number l.allowed) f)
