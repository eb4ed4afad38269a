use Rattle.cil_server.proofs.StreamLemmas.{tells_four}
use Rattle.cil_locate.proofs.lines.put_place.Goals as goal

pub returns : goal.returns
returns g c =
    tells_four _ _ _ _ _ _ _ _ _ (rw c.as_bytes.ensures.value at c.put.ensures) c.put_behind_colon.ensures c.put_behind_colon-2.ensures c.put-2.ensures
