use Rattle.cil_blocks.proofs.LawLemmas.{have_one_standing}
use Rattle.cil_blocks.proofs.laws.one_standing.Goals as goal

pub returns : goal.returns
returns c = have_one_standing
