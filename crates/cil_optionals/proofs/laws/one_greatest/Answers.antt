use Rattle.cil_optionals.proofs.GreatestLemmas.{one_greatest}
use Rattle.cil_optionals.proofs.laws.one_greatest.Goals as goal

pub returns : goal.returns
returns c = one_greatest
