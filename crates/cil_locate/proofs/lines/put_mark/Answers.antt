use Rattle.cil_server.proofs.StreamLemmas.{tells_four}
use Rattle.cil_locate.proofs.lines.put_mark.Goals as goal

pub returns : goal.returns
returns g c =
    tells_four _ _ _ _ _ _ _ _ _ c.put_repeated.ensures c.put.ensures (rw c.saturating_sub.ensures at c.put_repeated-2.ensures) c.put-2.ensures
