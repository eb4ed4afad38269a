use Rattle.cil_known.proofs.FamilyLemmas.{stands_is}
use Rattle.cil_known.proofs.laws.stands_as_held.Goals as goal

pub returns : goal.returns
returns c xs s kind rank ranked m of_m w t = stands_is xs s kind rank ranked m of_m w t
