use Rattle.std.proofs.Common.{◌≤◌, ◌-◌, length}
use Rattle.cil_index.specs.Entries.{AreBefore}
use Rattle.cil_index.proofs.index.part_start.Given as goal

abbrev pub invariant-loop-at : goal.invariant-loop-at
invariant-loop-at l = (l.at ≤ length l.entries) × AreBefore l.entries l.part l.at

abbrev pub decreases-loop-at : goal.decreases-loop-at
decreases-loop-at l = length l.entries - l.at
