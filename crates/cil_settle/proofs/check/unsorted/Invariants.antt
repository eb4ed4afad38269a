use Rattle.std.proofs.Common.{take}
use Rattle.cil_settle.specs.Checked.{AreInner}
use Rattle.cil_settle.proofs.check.unsorted.Given as goal

abbrev pub invariant-loop-edge : goal.invariant-loop-edge
invariant-loop-edge l = AreInner (take l.edge-index l.edges) l.guess.roots.items l.guess.ranks.items l.inner.items
