use Rattle.cil_constraints.proofs.OrderLemmas.{one_constraint}
use Rattle.cil_constraints.proofs.laws.one_constraint.Goals as goal

pub returns : goal.returns
returns c = one_constraint
