use Rattle.std.proofs.Common.{arith, false}
use Rattle.cil_settle.specs.declared.edge.Edge.{Edge}
use Rattle.cil_settle.proofs.CheckLemmas.{steady_all, steady_more}
use Rattle.cil_settle.proofs.check.are_steady.Goals as goal

abbrev empty : Edge
empty = record { from = 0; to = 0; counted = false }

pub loop-edge-preserved : goal.loop-edge-preserved
loop-edge-preserved c = steady_more c.args.edges.now c.loop-edge.edge-index empty _ _ (omega arith) c.loop-edge.invariant (c.is_steady.ensures.0 c.if-not-is_steady.false)

pub returns : goal.returns
returns c = λ t. steady_all c.args.edges.now c.loop-edge.edge-index _ _ (omega arith) c.loop-edge.invariant
