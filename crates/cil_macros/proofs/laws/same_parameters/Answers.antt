use Rattle.cil_macros.proofs.SameParameters.{have_their_names}
use Rattle.cil_macros.proofs.laws.same_parameters.Goals as goal

pub returns : goal.returns
returns c = have_their_names
