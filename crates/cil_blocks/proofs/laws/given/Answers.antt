use Rattle.cil_blocks.proofs.Given.{are_given}
use Rattle.cil_blocks.proofs.laws.given.Goals as goal

pub returns : goal.returns
returns c = are_given
