use Rattle.cil_modset.proofs.EitherLemmas.{always_either}
use Rattle.cil_modset.proofs.laws.always_either.Goals as goal

pub returns : goal.returns
returns c = always_either c.always_either.ensures
