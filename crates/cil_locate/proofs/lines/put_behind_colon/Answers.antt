use Rattle.cil_server.proofs.StreamLemmas.{tells_both}
use Rattle.cil_locate.proofs.lines.put_behind_colon.Goals as goal

pub returns : goal.returns
returns g c = tells_both _ _ _ _ _ c.put.ensures c.put_decimal.ensures
