use Rattle.cil_blocks.specs.Steps.{AreSteps}
use Rattle.cil_blocks.proofs.graph.unsorted.Given as goal

abbrev pub invariant-loop-number : goal.invariant-loop-number
invariant-loop-number l = AreSteps l.steps.parts.now l.steps.targets.now l.number l.edges.items
