use Rattle.cil_conditions.proofs.ConditionLemmas.{chosen_is_said}
use Rattle.cil_conditions.proofs.laws.chosen_is_said.Goals as goal

pub returns : goal.returns
returns c = chosen_is_said
