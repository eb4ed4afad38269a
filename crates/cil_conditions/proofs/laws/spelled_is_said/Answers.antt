use Rattle.cil_conditions.proofs.ConditionLemmas.{spelled_is_said}
use Rattle.cil_conditions.proofs.laws.spelled_is_said.Goals as goal

pub returns : goal.returns
returns c = spelled_is_said
