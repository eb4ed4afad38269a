use Rattle.cil_index.proofs.GatherLemmas.{sets_all, sets_more}
use Rattle.cil_index.proofs.sets.gathered_from.Goals as goal

pub loop-set-preserved : goal.loop-set-preserved
loop-set-preserved c =
    sets_more c.args.named.now c.loop-set.set-index c.set-item.result c.loop-set.gathered c.add.new.self c.loop-set-test.true c.set-item.is c.loop-set.invariant
    c.in_ok-add.ensures.stays c.in_ok-add.ensures.added

pub returns : goal.returns
returns c = sets_all c.args.named.now c.loop-set.set-index c.loop-set.gathered c.loop-set-test.false c.loop-set.invariant
