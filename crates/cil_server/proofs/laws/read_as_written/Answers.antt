use Rattle.cil_server.proofs.SpelledLemmas.{read_as_written}
use Rattle.cil_server.proofs.laws.read_as_written.Goals as goal

pub returns : goal.returns
returns c = read_as_written
