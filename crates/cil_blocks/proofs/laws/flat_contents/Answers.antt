use Rattle.cil_blocks.proofs.FlatContents.{have_flat_contents}
use Rattle.cil_blocks.proofs.laws.flat_contents.Goals as goal

pub returns : goal.returns
returns c = have_flat_contents
