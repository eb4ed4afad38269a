use Rattle.std.proofs.Common.{take}
use Rattle.cil_settle.specs.Checked.{AreTurned}
use Rattle.cil_settle.proofs.check.turned_round.Given as goal

abbrev pub invariant-loop-edge : goal.invariant-loop-edge
invariant-loop-edge l = AreTurned (take l.edge-index l.edges) l.turned.items
