use Rattle.cil_index.proofs.RunLemmas.{IsSearched}
use Rattle.cil_index.proofs.search.halved.Given as goal

abbrev pub invariant-loop-size : goal.invariant-loop-size
invariant-loop-size l = IsSearched l.aims.items l.start l.end l.aim l.low l.size

abbrev pub decreases-loop-size : goal.decreases-loop-size
decreases-loop-size l = l.size
