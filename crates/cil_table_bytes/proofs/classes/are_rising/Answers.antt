use Rattle.cil_format.proofs.Rises.{one_text_left}
use Rattle.cil_table_bytes.proofs.classes.are_rising.Goals as goal

pub returns : goal.returns
returns c = one_text_left c.args.texts.now c.loop-at.at c.loop-at-test.false c.loop-at.invariant
