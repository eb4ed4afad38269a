use Rattle.std.proofs.Common.{take}
use Rattle.cil_settle.specs.Checked.{AreLeaving}
use Rattle.cil_settle.proofs.check.leaving.Given as goal

abbrev pub invariant-loop-edge : goal.invariant-loop-edge
invariant-loop-edge l = AreLeaving (take l.edge-index l.edges) l.nodes l.flags.items
