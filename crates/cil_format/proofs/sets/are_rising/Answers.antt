use Rattle.cil_format.proofs.Rises.{one_left}
use Rattle.cil_format.proofs.sets.are_rising.Goals as goal

pub returns : goal.returns
returns c = one_left c.args.numbers.now c.loop-at.at c.loop-at-test.false c.loop-at.invariant
