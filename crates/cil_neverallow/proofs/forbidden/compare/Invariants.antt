use Rattle.std.proofs.Common.{take}
use Rattle.std.specs.Prelude.{◌↔◌, Contains}
use Rattle.cil_faults.specs.declared.fault.Fault.{Fault}
use Rattle.cil_macros.specs.Items.{item_at}
use Rattle.cil_neverallow.specs.Violations.{IsViolation}
use Rattle.cil_neverallow.proofs.forbidden.compare.Given as goal

abbrev pub invariant-loop-number : goal.invariant-loop-number
invariant-loop-number l = (f : Fault) → Contains l.faults.items f ↔ IsViolation (item_at l.instances) l.view (take l.number l.forbidden) l.allowed f
