use Rattle.cil_conditions.proofs.ConditionLemmas.{has_spelled_truth}
use Rattle.cil_conditions.proofs.laws.spelled_truth.Goals as goal

pub returns : goal.returns
returns c = has_spelled_truth
