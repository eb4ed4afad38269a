use Rattle.std.proofs.Common.{◌∙◌}
use Rattle.cil_server.proofs.TurnLemmas.{exported, exports_lack}
use Rattle.cil_server.proofs.requests.export.Goals as goal

pub returns-in-Ok : goal.returns-in-Ok
returns-in-Ok g c = exported _ _ _ (c.as_slice.ensures.value ∙ c.in-Ok.ensures) c.put_bundle.ensures

pub returns-in-Err : goal.returns-in-Err
returns-in-Err g c = exports_lack _ _ c.put_refused.ensures
