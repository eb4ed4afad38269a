use Rattle.std.proofs.Common.{take}
use Rattle.cil_settle.specs.Checked.{AreSteady}
use Rattle.cil_settle.proofs.check.are_steady.Given as goal

abbrev pub invariant-loop-edge : goal.invariant-loop-edge
invariant-loop-edge l = AreSteady (take l.edge-index l.edges) l.guess.roots.items l.guess.ranks.items
