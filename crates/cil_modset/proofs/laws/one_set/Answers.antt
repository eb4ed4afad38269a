use Rattle.cil_modset.proofs.LawLemmas.{bundle_one}
use Rattle.cil_modset.proofs.laws.one_set.Goals as goal

pub returns : goal.returns
returns c = bundle_one
