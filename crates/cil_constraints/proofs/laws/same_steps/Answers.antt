use Rattle.cil_constraints.proofs.OneTree.{same_steps}
use Rattle.cil_constraints.proofs.laws.same_steps.Goals as goal

pub returns : goal.returns
returns c = same_steps
