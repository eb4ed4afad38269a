use Rattle.std.proofs.Common.{take}
use Rattle.cil_settle.specs.Plain.{AreStartsOf}
use Rattle.cil_settle.proofs.plain.starts.Given as goal

abbrev pub invariant-loop-edge : goal.invariant-loop-edge
invariant-loop-edge l = AreStartsOf (take l.edge-index l.edges) l.nodes l.node l.need.items
