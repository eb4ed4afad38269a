use Rattle.cil_server.proofs.StreamLemmas.{tells_four}
use Rattle.cil_locate.proofs.lines.put_source_line.Goals as goal

pub returns : goal.returns
returns g c = tells_four _ _ _ _ _ _ _ _ _ c.put_padded.ensures c.put.ensures c.put_visible.ensures c.put-2.ensures
