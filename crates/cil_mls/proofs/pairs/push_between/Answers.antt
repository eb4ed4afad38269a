use Rattle.std.proofs.Common.{refl}
use Rattle.cil_mls.proofs.PairLemmas.{between_all, between_more, between_none}
use Rattle.cil_mls.proofs.pairs.push_between.Goals as goal

pub loop-from-init : goal.loop-from-init
loop-from-init c = between_none c.args.low.now c.args.high.now c.args.edges.now.items

pub loop-from-preserved : goal.loop-from-preserved
loop-from-preserved c =
    between_more c.args.low.now c.args.high.now c.loop-from.from-index _ c.loop-from-test.true refl _ _ _ c.loop-from.invariant c.in_ok-push_from.ensures

pub returns : goal.returns
returns c = between_all c.args.low.now c.args.high.now c.loop-from.from-index c.loop-from-test.false _ _ c.loop-from.invariant
