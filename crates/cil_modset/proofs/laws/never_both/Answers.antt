use Rattle.cil_modset.proofs.FaultLemmas.{never_both}
use Rattle.cil_modset.proofs.laws.never_both.Goals as goal

pub returns : goal.returns
returns c = never_both c.never_both.ensures
