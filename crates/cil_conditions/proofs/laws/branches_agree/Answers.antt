use Rattle.cil_conditions.proofs.ConditionLemmas.{branches_agree}
use Rattle.cil_conditions.proofs.laws.branches_agree.Goals as goal

pub returns : goal.returns
returns c = branches_agree
