use Rattle.std.proofs.Common.{◌≡◌, ◌≤◌, Some, slice_get}
use Rattle.cil_syntax.specs.Program.{program_of}
use Rattle.cil_blocks.specs.Contents.{Standing}
use Rattle.cil_blocks.specs.Entries.{standings_of}
use Rattle.cil_macros.proofs.NearestLemmas.{IsReached}
use Rattle.cil_macros.proofs.nearest.came_through.Given as goal

abbrev pub invariant-loop-opener : goal.invariant-loop-opener
invariant-loop-opener l =
    (l.place ≤ l.at)
    × ((s : Standing) → slice_get (standings_of (program_of l.statements) l.entries) l.at ≡ Some s → IsReached (standings_of (program_of l.statements) l.entries) l.place s)

abbrev pub decreases-loop-opener : goal.decreases-loop-opener
decreases-loop-opener l = l.place
