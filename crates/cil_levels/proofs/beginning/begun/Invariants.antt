use Rattle.cil_levels.proofs.BegunLemmas.{AreBegunUpTo}
use Rattle.cil_levels.proofs.beginning.begun.Given as goal

abbrev pub invariant-loop-d : goal.invariant-loop-d
invariant-loop-d l = AreBegunUpTo l.entries l.standing l.places l.d l.helds.items
