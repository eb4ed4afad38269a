use Rattle.cil_conditions.proofs.ConditionLemmas.{has_one_spelling}
use Rattle.cil_conditions.proofs.laws.one_spelling.Goals as goal

pub returns : goal.returns
returns c = has_one_spelling
