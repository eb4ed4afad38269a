use Rattle.cil_optionals.proofs.FirstLawLemmas.{first_is_judged}
use Rattle.cil_optionals.proofs.laws.tells_judged.Goals as goal

pub returns : goal.returns
returns c = first_is_judged
