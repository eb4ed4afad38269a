use Rattle.cil_constraints.proofs.NumberTests.{has_is}
use Rattle.cil_constraints.proofs.expr.has_number.Goals as goal

pub returns : goal.returns
returns c = has_is _ _ _ c.contains.ensures
