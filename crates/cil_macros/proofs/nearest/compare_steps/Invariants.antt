use Rattle.std.proofs.Common.{◌≡◌, Some, length, slice_get}
use Rattle.cil_syntax.specs.Program.{program_of}
use Rattle.cil_blocks.specs.Contents.{Standing, path_of}
use Rattle.cil_blocks.specs.Entries.{standings_of}
use Rattle.cil_macros.proofs.NearestLemmas.{AreOrdered}
use Rattle.cil_macros.proofs.nearest.compare_steps.Given as goal

abbrev pub invariant-loop-i : goal.invariant-loop-i
invariant-loop-i l =
    (s t : Standing) → slice_get (standings_of (program_of l.statements) l.entries) l.one ≡ Some s → slice_get (standings_of (program_of l.statements) l.entries) l.other ≡ Some t
    → length (path_of s) ≡ length (path_of t) → AreOrdered (standings_of (program_of l.statements) l.entries) l.a l.b l.order s t

abbrev pub decreases-loop-i : goal.decreases-loop-i
decreases-loop-i l = l.a
