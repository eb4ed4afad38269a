use Rattle.cil_constraints.proofs.NumberTests.{dominance_is}
use Rattle.cil_constraints.proofs.expr.dominates.Goals as goal

pub returns : goal.returns
returns c = dominance_is _ _ _ c.dominates.ensures
