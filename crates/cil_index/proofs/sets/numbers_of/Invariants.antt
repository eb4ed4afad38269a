use Rattle.cil_index.proofs.GatherLemmas.{AreFirst}
use Rattle.cil_index.proofs.sets.numbers_of.Given as goal

abbrev pub invariant-loop-set : goal.invariant-loop-set
invariant-loop-set l = AreFirst l.sets l.named l.set-index l.numbers.items
