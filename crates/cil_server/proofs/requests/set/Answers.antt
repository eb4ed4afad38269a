use Rattle.std.specs.Prelude.{Err, Ok}
use Rattle.cil_server.proofs.TurnLemmas.{set_answered}
use Rattle.cil_server.proofs.requests.set.Goals as goal

pub returns-in-Ok : goal.returns-in-Ok
returns-in-Ok g c = set_answered _ _ _ _ _ _ (Ok tt) c.in-Ok.is c.set_boolean.ensures c.put.ensures

pub returns-in-Err : goal.returns-in-Err
returns-in-Err g c = set_answered _ _ _ _ _ _ (Err c.in-Err.fault) c.in-Err.is c.set_boolean.ensures c.put_query_fault.ensures
