use Rattle.std.specs.Prelude.{◌≡◌, ◌++◌, map, take}
use Rattle.cil_blocks.specs.Steps.{edge_from}
use Rattle.cil_blocks.proofs.graph.push_edges.Given as goal

abbrev pub invariant-loop-number : goal.invariant-loop-number
invariant-loop-number l = l.edges.items ≡ l.fn.edges.items ++ map (edge_from l.from) (take l.number-index l.numbers)
