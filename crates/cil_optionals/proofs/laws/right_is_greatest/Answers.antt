use Rattle.cil_optionals.proofs.GreatestLemmas.{right_is_greatest}
use Rattle.cil_optionals.proofs.laws.right_is_greatest.Goals as goal

pub returns : goal.returns
returns c = right_is_greatest
