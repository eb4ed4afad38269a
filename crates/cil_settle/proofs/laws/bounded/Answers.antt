use Rattle.cil_settle.proofs.LawLemmas.{bounded}
use Rattle.cil_settle.proofs.laws.bounded.Goals as goal

pub returns : goal.returns
returns c = bounded
