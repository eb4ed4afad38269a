use Rattle.cil_known.proofs.FamilyLemmas.{one_family}
use Rattle.cil_known.proofs.laws.one_family.Goals as goal

pub returns : goal.returns
returns c xs s space range rank ranked m n of_m of_n a t d = one_family xs s space range m n rank ranked of_m of_n a t d
