use Rattle.std.proofs.Common.{◌≡◌, ◌-◌, ◌++◌, List, drop, length}
use Rattle.std.specs.List.{flat_map}
use Rattle.cil_macros.specs.Listed.{parts_there}
use Rattle.cil_macros.specs.Placed.{Placed}
use Rattle.cil_names.specs.Asked.{wanted_by}
use Rattle.cil_names.specs.AskedParts.{parts_asked}
use Rattle.cil_names.proofs.asked_parts.ask_parts.Given as goal

abbrev pub invariant-loop-at : goal.invariant-loop-at
invariant-loop-at l =
    (ps : List Placed) → flat_map (wanted_by ps) l.asked.items ++ parts_asked 0 (parts_there ps (drop l.at l.parts))
    ≡ flat_map (wanted_by ps) l.fn.asked.items ++ parts_asked 0 (parts_there ps l.parts)

abbrev pub decreases-loop-at : goal.decreases-loop-at
decreases-loop-at l = length l.parts - l.at
