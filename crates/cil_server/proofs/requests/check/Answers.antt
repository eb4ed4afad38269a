use Rattle.cil_server.proofs.TurnLemmas.{checked, unchecked}
use Rattle.cil_server.proofs.requests.check.Goals as goal

pub returns-in-Ok : goal.returns-in-Ok
returns-in-Ok g c = checked _ _ _ _ _ _ _ _ _ c.in-Ok.is c.check.ensures.answer c.check.ensures.stays c.put_checked.ensures

pub returns-in-Err : goal.returns-in-Err
returns-in-Err g c = unchecked _ _ _ _ _ _ _ _ _ c.in-Err.is c.check.ensures.answer c.check.ensures.stays c.put_query_fault.ensures
