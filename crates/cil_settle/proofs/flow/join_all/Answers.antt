use Rattle.std.proofs.Common.{arith, rules}
use Rattle.cil_settle.proofs.SpreadLemmas.{joined_next, joined_whole}
use Rattle.cil_settle.proofs.flow.join_all.Goals as goal

pub loop-edge-preserved : goal.loop-edge-preserved
loop-edge-preserved c = (
  joined_next c.args.all.now.items c.args.queue.now.items c.args.edges.now c.loop-edge.edge-index _ c.args.mask _ _ _ _ (omega arith) c.loop-edge.invariant.0 c.in_ok-join.ensures.joined,
  search rules,
)

pub returns-clause-joined : goal.returns-clause-joined
returns-clause-joined c = joined_whole c.args.all.now.items c.args.queue.now.items c.args.edges.now c.loop-edge.edge-index c.args.mask _ _ (omega arith) c.loop-edge.invariant.0
