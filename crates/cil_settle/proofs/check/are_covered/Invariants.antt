use Rattle.std.proofs.Common.{take}
use Rattle.cil_settle.specs.Checked.{AreCovered}
use Rattle.cil_settle.proofs.check.are_covered.Given as goal

abbrev pub invariant-loop-edge : goal.invariant-loop-edge
invariant-loop-edge l = AreCovered (take l.edge-index l.inner) l.forward l.backward
