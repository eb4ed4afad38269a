use Rattle.cil_server.proofs.TurnLemmas.{optionals_declined, optionals_told}
use Rattle.cil_server.proofs.requests.optionals.Goals as goal

pub returns-in-Ok : goal.returns-in-Ok
returns-in-Ok g c = optionals_told _ _ _ _ _ c.in-Ok.is c.as_slice.ensures.value c.optionals.ensures c.put_optionals.ensures

pub returns-in-Err : goal.returns-in-Err
returns-in-Err g c = optionals_declined _ _ _ _ c.in-Err.is c.optionals.ensures c.put_host_error.ensures
