use Rattle.std.specs.Prelude.{◌≡◌, take}
use Rattle.std.specs.List.{flat_map}
use Rattle.cil_attrs.specs.Order.{edges_by}
use Rattle.cil_attrs.proofs.order.unsorted.Given as goal

abbrev pub invariant-loop-given : goal.invariant-loop-given
invariant-loop-given l = l.edges.items ≡ flat_map (edges_by l.held) (take l.given-index l.givens)
