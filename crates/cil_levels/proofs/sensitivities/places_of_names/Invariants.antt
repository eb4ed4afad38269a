use Rattle.cil_levels.proofs.SensitivityLemmas.{AreKeptUpTo}
use Rattle.cil_levels.proofs.sensitivities.places_of_names.Given as goal

abbrev pub invariant-loop-d : goal.invariant-loop-d
invariant-loop-d l = AreKeptUpTo l.standing l.places l.d l.kept.items
