use Rattle.std.proofs.Common.{arith, refl, false}
use Rattle.cil_settle.specs.declared.edge.Edge.{Edge}
use Rattle.cil_settle.proofs.CheckLemmas.{turned_all, turned_more}
use Rattle.cil_settle.proofs.check.turned_round.Goals as goal

abbrev empty : Edge
empty = record { from = 0; to = 0; counted = false }

pub loop-edge-preserved : goal.loop-edge-preserved
loop-edge-preserved c = rw c.in_ok-push.ensures.items (turned_more c.args.edges.now c.loop-edge.edge-index empty _ _ (omega arith) refl refl c.loop-edge.invariant)

pub returns : goal.returns
returns c = turned_all c.args.edges.now c.loop-edge.edge-index _ (omega arith) c.loop-edge.invariant
