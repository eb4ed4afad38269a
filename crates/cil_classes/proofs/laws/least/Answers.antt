use Rattle.cil_classes.proofs.LeastLemmas.{is_least}
use Rattle.cil_classes.proofs.laws.least.Goals as goal

pub returns : goal.returns
returns c xs s = is_least xs s
