use Rattle.std.proofs.Common.{◌≡◌, map, take}
use Rattle.cil_locate.specs.Located.{key_of_note}
use Rattle.cil_locate.specs.Order.{numbered_from}
use Rattle.cil_locate.proofs.notes.order_of_notes.Given as goal

abbrev pub invariant-loop-line : goal.invariant-loop-line
invariant-loop-line l = l.told.items ≡ numbered_from 0 (map (key_of_note l.origins) (take l.line-index l.lines))
