use Rattle.std.proofs.Common.{◌-◌, ◌+◌, ◌≤◌}
use Rattle.cil_macros.specs.Walks.{AreBrought, AreInTurn}
use Rattle.cil_macros.proofs.WalkLemmas.{AreReached}
use Rattle.cil_macros.proofs.chain.Brought.open_from.Given as goal

abbrev pub invariant-loop-at : goal.invariant-loop-at
invariant-loop-at l =
    (l.at ≤ l.limit) × AreBrought l.source.spaces.now l.self
    × AreReached l.source.spaces.now l.at l.self.entries.items
    × AreInTurn l.source.spaces.now l.self.entries.items l.self.bodies.items l.at

abbrev pub decreases-loop-at : goal.decreases-loop-at
decreases-loop-at l = l.limit + 1 - l.at
