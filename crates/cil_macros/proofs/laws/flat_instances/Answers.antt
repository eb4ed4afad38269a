use Rattle.cil_macros.proofs.FlatInstances.{have_flat_instances}
use Rattle.cil_macros.proofs.laws.flat_instances.Goals as goal

pub returns : goal.returns
returns c = have_flat_instances
