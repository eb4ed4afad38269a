use Rattle.std.specs.Prelude.{◌≡◌, ◌++◌, take}
use Rattle.std.specs.List.{flat_map}
use Rattle.cil_attrs.specs.Order.{edge_to}
use Rattle.cil_attrs.proofs.order.push_edges.Given as goal

abbrev pub invariant-loop-word : goal.invariant-loop-word
invariant-loop-word l = l.edges.items ≡ l.initial.edges.items ++ flat_map (edge_to l.held l.given.set) (take l.word-index l.given.words.now)
