use Rattle.std.specs.Prelude.{◌≡◌, ◌≤◌, take}
use Rattle.std.specs.List.{count_by}
use Rattle.cil_settle.specs.Settled.{is_counted}
use Rattle.cil_settle.specs.Walk.{IsLowered}
use Rattle.cil_settle.proofs.supports.lower_all.Given as goal

abbrev pub invariant-loop-edge : goal.invariant-loop-edge
invariant-loop-edge l = IsLowered l.fn.left.items l.fn.order.items (take l.edge-index l.edges) l.left.items l.order.items
    × (l.lookups ≡ count_by is_counted (take l.edge-index l.edges)) × (l.lookups ≤ l.edge-index)
