use Rattle.cil_settle.specs.Checked.{AreRoots}
use Rattle.cil_settle.proofs.check.need_of.Given as goal

abbrev pub invariant-loop-node : goal.invariant-loop-node
invariant-loop-node l = AreRoots l.node l.roots l.need.items
