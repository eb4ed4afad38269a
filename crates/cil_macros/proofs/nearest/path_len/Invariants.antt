use Rattle.std.proofs.Common.{◌≡◌, ◌≤◌, ◌+◌, Some, slice_get}
use Rattle.cil_syntax.specs.Program.{program_of}
use Rattle.cil_blocks.specs.Contents.{Standing}
use Rattle.cil_blocks.specs.Entries.{standings_of}
use Rattle.cil_macros.proofs.NearestLemmas.{IsCounted}
use Rattle.cil_macros.proofs.nearest.path_len.Given as goal

abbrev pub invariant-loop-inherit : goal.invariant-loop-inherit
invariant-loop-inherit l =
    (l.count + l.place ≤ l.at + 1)
    × ((s : Standing) → slice_get (standings_of (program_of l.statements) l.entries) l.at ≡ Some s → IsCounted (standings_of (program_of l.statements) l.entries) l.place l.count s)

abbrev pub decreases-loop-inherit : goal.decreases-loop-inherit
decreases-loop-inherit l = l.place
