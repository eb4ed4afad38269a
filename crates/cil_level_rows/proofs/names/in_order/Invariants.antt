use Rattle.std.specs.Prelude.{◌≡◌, [], get_or, map, take}
use Rattle.cil_level_rows.proofs.names.in_order.Given as goal

abbrev pub invariant-loop-number : goal.invariant-loop-number
invariant-loop-number l = l.row.items ≡ map (λ n. get_or l.names n []) (take l.number-index l.order)
