use Rattle.std.proofs.Common.{length, ◌-◌, ◌<◌, ℕ, suc, get_or}
use Rattle.cil_settle.specs.Cycles.{Leads}
use Rattle.cil_mls.proofs.order.are_joined.Given as goal

abbrev pub invariant-loop-at : goal.invariant-loop-at
invariant-loop-at l = (0 < l.at) × ((i : ℕ) → suc i < l.at → suc i < length l.order → Leads l.edges (get_or l.order i 0) (get_or l.order (suc i) 0))

abbrev pub decreases-loop-at : goal.decreases-loop-at
decreases-loop-at l = length l.order - l.at
