use Rattle.std.proofs.Common.{◌≤◌, List, length}
use Rattle.cil_macros.specs.Placed.{Placed}
use Rattle.cil_names.proofs.AskedPartLemmas.{IsCounted}
use Rattle.cil_names.proofs.asked_parts.inside.Given as goal

abbrev pub invariant-loop-at : goal.invariant-loop-at
invariant-loop-at l = (l.depth ≤ l.at) × (l.at ≤ length l.parts) × ((ps : List Placed) → IsCounted ps l.parts l.at l.depth)
