use Rattle.cil_settle.specs.Walk.{IsStarted}
use Rattle.cil_settle.proofs.supports.at_start.Given as goal

abbrev pub invariant-loop-node : goal.invariant-loop-node
invariant-loop-node l = IsStarted l.left l.order.items l.node
