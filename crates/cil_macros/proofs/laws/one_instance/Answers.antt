use Rattle.cil_macros.proofs.LawLemmas.{have_one_instance}
use Rattle.cil_macros.proofs.laws.one_instance.Goals as goal

pub returns : goal.returns
returns c = have_one_instance
