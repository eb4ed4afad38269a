use Rattle.cil_macros.proofs.ServingLemmas.{AreLeft}
use Rattle.cil_macros.proofs.parameters.Parameters.add_all.Given as goal

abbrev pub invariant-loop-term : goal.invariant-loop-term
invariant-loop-term l = AreLeft l.called.at.«module» l.number l.term-items l.initial.self l.term-index l.before l.self
