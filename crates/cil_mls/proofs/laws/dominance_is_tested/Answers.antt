use Rattle.cil_mls.proofs.DominanceLemmas.{dominates_is}
use Rattle.cil_mls.proofs.laws.dominance_is_tested.Goals as goal

pub returns : goal.returns
returns c = dominates_is
