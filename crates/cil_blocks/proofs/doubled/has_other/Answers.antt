use Rattle.cil_blocks.proofs.DoubledLemmas.{has_none, none_other}
use Rattle.cil_blocks.proofs.doubled.has_other.Goals as goal

pub loop-other-preserved : goal.loop-other-preserved
loop-other-preserved c = none_other c.args.numbers.now c.loop-other.other-index c.args.number c.loop-other-test.true c.if-other-number.false c.loop-other.invariant

pub returns : goal.returns
returns c = has_none c.args.numbers.now c.loop-other.other-index c.args.number c.loop-other-test.false c.loop-other.invariant
