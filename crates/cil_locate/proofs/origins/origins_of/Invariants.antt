use Rattle.std.proofs.Common.{◌≤◌, length}
use Rattle.cil_locate.proofs.OriginLemmas.{AreFrom}
use Rattle.cil_locate.proofs.origins.origins_of.Given as goal

abbrev pub invariant-loop-left : goal.invariant-loop-left
invariant-loop-left l = (l.left ≤ length l.files) × AreFrom l.files l.modules l.origins.items l.left

abbrev pub decreases-loop-left : goal.decreases-loop-left
decreases-loop-left l = l.left
