use Rattle.cil_index.proofs.GatherLemmas.{all_numbers, no_numbers, numbers_more, set_there}
use Rattle.cil_index.proofs.sets.numbers_of.Goals as goal

pub number-requires : goal.number-requires
number-requires c = c.requires.there c.set-item.result (set_there c.args.named.now c.loop-set.set-index c.set-item.result c.loop-set-test.true c.set-item.is)

pub loop-set-init : goal.loop-set-init
loop-set-init c = no_numbers c.args.sets.now c.args.named.now _ c.in_ok-numbers.ensures.items

pub loop-set-preserved : goal.loop-set-preserved
loop-set-preserved c =
    numbers_more c.args.sets.now c.args.named.now c.loop-set.set-index c.in_ok-number.field-0 c.set-item.result c.loop-set.numbers.items _ c.loop-set-test.true c.set-item.is
    c.in_ok-number.ensures c.in_ok-push.ensures.items c.loop-set.invariant

pub returns : goal.returns
returns c = all_numbers c.args.sets.now c.args.named.now c.loop-set.set-index c.loop-set.numbers.items c.loop-set-test.false c.requires.empty c.loop-set.invariant
