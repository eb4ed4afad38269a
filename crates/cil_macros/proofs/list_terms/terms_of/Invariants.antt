use Rattle.std.proofs.Common.{ℕ, List, ◌≤◌, drop, length}
use Rattle.cil_macros.specs.Listed.{parts_there, read_parts}
use Rattle.cil_macros.specs.ListTerms.{AreRead}
use Rattle.cil_macros.specs.Placed.{Placed}
use Rattle.cil_macros.proofs.list_terms.terms_of.Given as goal

abbrev pub invariant-loop-place : goal.invariant-loop-place
invariant-loop-place l = (l.place ≤ length l.parts) × ((ps : List Placed) (m : ℕ) → AreRead (parts_there ps l.parts) m l.reading (read_parts (drop l.place (parts_there ps l.parts))))

abbrev pub decreases-loop-place : goal.decreases-loop-place
decreases-loop-place l = l.place
