use Rattle.cil_optionals.proofs.PolicyLemmas.{nobody_greatest}
use Rattle.cil_optionals.proofs.laws.flat_is_greatest.Goals as goal

pub returns : goal.returns
returns c = nobody_greatest
