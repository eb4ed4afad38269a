use Rattle.cil_levels.proofs.LawLemmas.{one_values}
use Rattle.cil_levels.proofs.laws.one_values.Goals as goal

pub returns : goal.returns
returns c = λ xs s row rank ranked v u of_v of_u. one_values xs s row rank ranked v u of_v of_u
