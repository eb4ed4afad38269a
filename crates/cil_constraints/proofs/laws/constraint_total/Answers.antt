use Rattle.cil_constraints.specs.Order.{constraint_total as is_total}
use Rattle.cil_constraints.proofs.laws.constraint_total.Goals as goal

pub returns : goal.returns
returns c = is_total
