use Rattle.cil_locate.proofs.PositionLemmas.{at_start}
use Rattle.cil_locate.proofs.position.Position.start.Goals as goal

pub returns : goal.returns
returns c = λ text. at_start text
