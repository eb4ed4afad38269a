use Rattle.std.proofs.Common.{◌∙◌}
use Rattle.cil_server.proofs.TurnLemmas.{listed_lines, lists_lack}
use Rattle.cil_server.proofs.requests.list.Goals as goal

pub returns-in-Ok : goal.returns-in-Ok
returns-in-Ok g c = listed_lines _ _ _ (c.as_slice.ensures.value ∙ c.in-Ok.ensures) c.put_lines.ensures

pub returns-in-Err : goal.returns-in-Err
returns-in-Err g c = lists_lack _ _ c.put_refused.ensures
