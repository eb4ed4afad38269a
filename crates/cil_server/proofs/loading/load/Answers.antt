use Rattle.std.proofs.Common.{refl}
use Rattle.cil_server.specs.Load.{LeavesLoad}
use Rattle.cil_server.proofs.loading.load.Goals as goal

pub returns-in-Err-clause-load : goal.returns-in-Err-clause-load
returns-in-Err-clause-load g c = LeavesLoad.nothing refl refl
