use Rattle.cil_blocks.specs.Steps.{Fall}
use Rattle.cil_blocks.proofs.levels.each_falls.Given as goal

abbrev pub invariant-loop-number : goal.invariant-loop-number
invariant-loop-number l = Fall l.steps.parts.now l.steps.targets.now l.number l.levels
