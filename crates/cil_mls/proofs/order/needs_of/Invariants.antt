use Rattle.std.specs.Prelude.{take}
use Rattle.std.proofs.Common.{length, ◌-◌}
use Rattle.cil_mls.specs.OrderSteps.{IsCounted}
use Rattle.cil_mls.proofs.order.needs_of.Given as goal

abbrev pub invariant-loop-at : goal.invariant-loop-at
invariant-loop-at l = IsCounted (take l.at l.edges) l.count l.need.items

abbrev pub decreases-loop-at : goal.decreases-loop-at
decreases-loop-at l = length l.edges - l.at
