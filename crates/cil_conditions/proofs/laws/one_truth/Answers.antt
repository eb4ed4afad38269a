use Rattle.cil_conditions.proofs.ConditionLemmas.{has_one_truth}
use Rattle.cil_conditions.proofs.laws.one_truth.Goals as goal

pub returns : goal.returns
returns c = has_one_truth
