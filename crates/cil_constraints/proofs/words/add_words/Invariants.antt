use Rattle.cil_constraints.specs.Walk.{AreAddedUpTo}
use Rattle.cil_constraints.proofs.words.add_words.Given as goal

abbrev pub invariant-loop-part : goal.invariant-loop-part
invariant-loop-part l = AreAddedUpTo l.sets l.module l.parts l.words l.rest l.part-index l.initial.set l.set
