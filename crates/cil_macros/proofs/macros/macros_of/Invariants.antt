use Rattle.std.proofs.Common.{◌≤◌, length}
use Rattle.cil_blocks.specs.Places.{entries_in}
use Rattle.cil_macros.specs.Macros.{AreMacrosFrom}
use Rattle.cil_macros.proofs.macros.macros_of.Given as goal

abbrev pub invariant-loop-rank : goal.invariant-loop-rank
invariant-loop-rank l = (l.rank ≤ length (entries_in l.spaces)) × AreMacrosFrom l.spaces l.rank l.macros

abbrev pub decreases-loop-rank : goal.decreases-loop-rank
decreases-loop-rank l = l.rank
