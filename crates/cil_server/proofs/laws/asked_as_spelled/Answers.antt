use Rattle.cil_server.proofs.SpelledLemmas.{asked_as_spelled}
use Rattle.cil_server.proofs.laws.asked_as_spelled.Goals as goal

pub returns : goal.returns
returns c = asked_as_spelled
