use Rattle.std.proofs.lemmas.List.{get_or_default}
use Rattle.std.proofs.Common.{refl}
use Rattle.cil_index.proofs.MembershipLemmas.{filter_all, filter_more, filter_none}
use Rattle.cil_index.proofs.memberships.filter_of.Goals as goal

pub loop-number-init : goal.loop-number-init
loop-number-init c = filter_none c.args.numbers.now _ refl

pub loop-number-preserved : goal.loop-number-preserved
loop-number-preserved c = filter_more c.args.numbers.now c.loop-number.number-index _ c.loop-number.filter _ c.loop-number-test.true (get_or_default _ _ _ _ c.loop-number-test.true) c.add_bit.ensures.added c.add_bit.ensures.stays c.add_bit.ensures.only c.loop-number.invariant

pub returns : goal.returns
returns c = filter_all c.args.numbers.now c.loop-number.number-index c.loop-number.filter c.loop-number-test.false c.loop-number.auto.number-index-end c.loop-number.invariant
