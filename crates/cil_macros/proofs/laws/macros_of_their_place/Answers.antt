use Rattle.cil_macros.proofs.MacroScope.{have_macros_of_their_place}
use Rattle.cil_macros.proofs.laws.macros_of_their_place.Goals as goal

pub returns : goal.returns
returns c = have_macros_of_their_place
