use Rattle.cil_blocks.specs.Steps.{HaveWayBack}
use Rattle.cil_blocks.proofs.cycles.flagged.Given as goal

abbrev pub invariant-loop-number : goal.invariant-loop-number
invariant-loop-number l = HaveWayBack l.steps.parts.now l.steps.targets.now l.number l.found.items
