use Rattle.cilhost.proofs.LocateLemmas.{file_read}
use Rattle.cilhost.proofs.locate.read_file.Goals as goal

pub returns-in-Ok-clause-file : goal.returns-in-Ok-clause-file
returns-in-Ok-clause-file g c = file_read _ _ _ _ c.new.ensures c.in-Ok.ensures.bytes
