use Rattle.cil_modset.proofs.NumberLemmas.{numbered}
use Rattle.cil_modset.proofs.laws.numbered.Goals as goal

pub returns : goal.returns
returns c = numbered
