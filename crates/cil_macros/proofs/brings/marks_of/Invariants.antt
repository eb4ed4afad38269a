use Rattle.std.proofs.Common.{◌≤◌, length}
use Rattle.cil_blocks.specs.Places.{entries_in}
use Rattle.cil_macros.specs.Brings.{AreMarkedFrom}
use Rattle.cil_macros.specs.Walks.{written_in}
use Rattle.cil_macros.proofs.brings.marks_of.Given as goal

abbrev pub invariant-loop-rank : goal.invariant-loop-rank
invariant-loop-rank l =
    (l.rank ≤ length l.brought.entries.items) × AreMarkedFrom (written_in l.spaces) l.brought.entries.items (length (entries_in l.spaces)) l.rank l.marks.items

abbrev pub decreases-loop-rank : goal.decreases-loop-rank
decreases-loop-rank l = l.rank
