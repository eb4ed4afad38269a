use Rattle.cil_conditions.proofs.ConditionLemmas.{said_is_spelled}
use Rattle.cil_conditions.proofs.laws.said_is_spelled.Goals as goal

pub returns : goal.returns
returns c = said_is_spelled
