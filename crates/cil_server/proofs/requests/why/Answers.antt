use Rattle.cil_server.proofs.TurnLemmas.{why_declined, why_told}
use Rattle.cil_server.proofs.requests.why.Goals as goal

pub returns-in-Ok : goal.returns-in-Ok
returns-in-Ok g c = why_told _ _ _ _ _ c.in-Ok.is c.as_slice.ensures.value c.why.ensures c.put_why.ensures

pub returns-in-Err : goal.returns-in-Err
returns-in-Err g c = why_declined _ _ _ _ c.in-Err.is c.why.ensures c.put_host_error.ensures
