use Rattle.cil_blocks.proofs.LawLemmas.{have_one_target}
use Rattle.cil_blocks.proofs.laws.one_target.Goals as goal

pub returns : goal.returns
returns c = have_one_target
