use Rattle.cil_levels.specs.Made.{AreDefined}
use Rattle.cil_levels.proofs.definitions.definitions_of.Given as goal

abbrev pub invariant-loop-at : goal.invariant-loop-at
invariant-loop-at l = AreDefined l.known l.instances l.at l.all.items
