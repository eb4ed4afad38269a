use Rattle.cil_optionals.proofs.FirstLawLemmas.{one_first}
use Rattle.cil_optionals.proofs.laws.one_first.Goals as goal

pub returns : goal.returns
returns c = one_first
