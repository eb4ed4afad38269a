use Rattle.std.proofs.Common.{◌-◌, ◌+◌, ◌≤◌, List}
use Rattle.cil_syntax.specs.Written.{Written}
use Rattle.cil_blocks.specs.Entries.{IsWalkable, standings_of}
use Rattle.cil_blocks.proofs.EntryLemmas.{AreSoFar}
use Rattle.cil_blocks.proofs.walker.walk.Given as goal

abbrev pub invariant-loop-at : goal.invariant-loop-at
invariant-loop-at l = (l.at ≤ l.limit) × ((ws : List Written) → IsWalkable ws l.parts l.opened → AreSoFar ws l.at (standings_of ws l.entries.items))

abbrev pub decreases-loop-at : goal.decreases-loop-at
decreases-loop-at l = l.limit + 1 - l.at
