use Rattle.std.proofs.Common.{refl}
use Rattle.cil_server.specs.Session.{Serves}
use Rattle.cil_server.proofs.session.serve.Goals as goal

pub returns-in-Err-clause-serves : goal.returns-in-Err-clause-serves
returns-in-Err-clause-serves g c = λ input before read wrote. Serves.nothing read refl wrote
