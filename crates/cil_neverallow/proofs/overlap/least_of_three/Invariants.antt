use Rattle.std.proofs.Common.{ℕ, ◌-◌, ◌≤◌}
use Rattle.cil_neverallow.specs.Ends.{AreInAll}
use Rattle.cil_neverallow.proofs.overlap.least_of_three.Given as goal

abbrev pub invariant-loop-climb : goal.invariant-loop-climb
invariant-loop-climb l = (t : ℕ) → AreInAll l.first l.second l.third t → l.start ≤ t

abbrev pub decreases-loop-climb : goal.decreases-loop-climb
decreases-loop-climb l = 18446744073709551616 - l.start
