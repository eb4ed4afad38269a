use Rattle.std.proofs.Common.{refl}
use Rattle.cil_mls.proofs.PairLemmas.{from_all, from_more, from_none, one_edge}
use Rattle.cil_mls.proofs.pairs.push_from.Goals as goal

pub loop-to-init : goal.loop-to-init
loop-to-init c = from_none c.args.from c.args.high.now c.args.edges.now.items

pub loop-to-preserved : goal.loop-to-preserved
loop-to-preserved c =
    from_more c.args.from c.args.high.now c.loop-to.to-index _ c.loop-to-test.true refl _ _ _ c.loop-to.invariant (one_edge _ _ _ c.in_ok-push.ensures.items)

pub returns : goal.returns
returns c = from_all c.args.from c.args.high.now c.loop-to.to-index c.loop-to-test.false _ _ c.loop-to.invariant
