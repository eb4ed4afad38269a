use Rattle.cil_mls.proofs.SameLemmas.{same_levels}
use Rattle.cil_mls.proofs.laws.same_are_equal.Goals as goal

pub returns : goal.returns
returns c = same_levels
