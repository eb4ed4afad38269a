use Rattle.cil_modset.proofs.FaultLemmas.{one_fault}
use Rattle.cil_modset.proofs.laws.one_fault.Goals as goal

pub returns : goal.returns
returns c = one_fault c.never_both.ensures c.one_fault.ensures
