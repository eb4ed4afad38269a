use Rattle.cil_server.proofs.StreamLemmas.{tells_three}
use Rattle.cil_locate.proofs.lines.put_cause.Goals as goal

pub returns : goal.returns
returns g c = tells_three _ _ _ _ _ _ _ c.put_decimal.ensures c.put.ensures (rw c.as_bytes.ensures.value at c.put-2.ensures)
