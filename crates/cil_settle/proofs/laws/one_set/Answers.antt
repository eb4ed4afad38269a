use Rattle.cil_settle.proofs.LawLemmas.{one_set}
use Rattle.cil_settle.proofs.laws.one_set.Goals as goal

pub returns : goal.returns
returns c = one_set
