use Rattle.std.proofs.Common.{arith, refl}
use Rattle.cil_settle.proofs.SpreadLemmas.{begun_more}
use Rattle.cil_settle.proofs.flow.begun.Goals as goal

pub loop-node-preserved : goal.loop-node-preserved
loop-node-preserved c = begun_more c.args.masks.now c.loop-node.queue.items _ c.loop-node.node _ (omega arith) refl c.in_ok-begin.ensures.fits c.in_ok-begin.ensures.node c.loop-node.invariant
