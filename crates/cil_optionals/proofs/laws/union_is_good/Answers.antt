use Rattle.cil_optionals.proofs.GreatestLemmas.{union_is_good}
use Rattle.cil_optionals.proofs.laws.union_is_good.Goals as goal

pub returns : goal.returns
returns c = union_is_good
