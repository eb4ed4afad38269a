use Rattle.cil_server.proofs.TurnLemmas.{decided, declined}
use Rattle.cil_server.proofs.requests.ask.Goals as goal

pub returns-in-Ok : goal.returns-in-Ok
returns-in-Ok g c = decided _ _ _ _ _ _ _ _ c.in-Ok.is c.query.ensures.answer c.query.ensures.stays c.put_decision.ensures

pub returns-in-Err : goal.returns-in-Err
returns-in-Err g c = declined _ _ _ _ _ _ _ _ c.in-Err.is c.query.ensures.answer c.query.ensures.stays c.put_query_fault.ensures
