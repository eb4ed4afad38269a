use Rattle.cil_server.proofs.StreamLemmas.{tells_both, tells_four}
use Rattle.cil_locate.proofs.lines.put_note.Goals as goal

pub returns : goal.returns
returns g c =
    tells_both _ _ _ _ _ (tells_both _ _ _ _ _ (tells_four _ _ _ _ _ _ _ _ _ c.put.ensures c.put-2.ensures c.put-3.ensures c.put_missing.ensures) c.put_space.ensures)
    c.put-4.ensures
