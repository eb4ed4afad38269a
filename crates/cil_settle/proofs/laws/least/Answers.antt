use Rattle.cil_settle.proofs.LawLemmas.{least}
use Rattle.cil_settle.proofs.laws.least.Goals as goal

pub returns : goal.returns
returns c = least
