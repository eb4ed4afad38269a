use Rattle.cil_settle.specs.Plain.{AreCounted}
use Rattle.cil_settle.proofs.plain.searched_cycles.Given as goal

abbrev pub invariant-loop-node : goal.invariant-loop-node
invariant-loop-node l = AreCounted l.edges l.nodes l.node l.on.items l.ranks.items
