use Rattle.cil_levels.proofs.LawLemmas.{one_value}
use Rattle.cil_levels.proofs.laws.one_value.Goals as goal

pub returns : goal.returns
returns c = λ xs s row rank ranked v u of_v of_u e n. one_value xs s row rank ranked v u of_v of_u n e
