use Rattle.cil_levels.proofs.HoldingLemmas.{evaluated}
use Rattle.cil_levels.proofs.laws.values_are_held.Goals as goal

pub returns : goal.returns
returns c = λ k xs row helds v held e b l. evaluated k xs row helds v held e b l
