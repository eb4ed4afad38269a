use Rattle.cil_conditions.specs.Gathered.{AreFound}
use Rattle.cil_conditions.proofs.found.found_in.Given as goal

abbrev pub invariant-loop-at : goal.invariant-loop-at
invariant-loop-at l = AreFound l.instances l.known l.at l.found.items
