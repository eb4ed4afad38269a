use Rattle.cil_known.proofs.FamilyLemmas.{holds_the_same}
use Rattle.cil_known.proofs.laws.holds_the_same.Goals as goal

pub returns : goal.returns
returns c xs s space range rank ranked m n of_m of_n w t = holds_the_same xs s space range m n rank ranked of_m of_n w t
