use Rattle.cil_syntax.proofs.ClashLemmas.{AreSeen}
use Rattle.cil_syntax.proofs.clashes.set_of.Given as goal

abbrev pub invariant-loop-name : goal.invariant-loop-name
invariant-loop-name l = AreSeen l.names l.set l.name-index
