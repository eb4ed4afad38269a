use Rattle.cil_server.proofs.StreamLemmas.{tells_three}
use Rattle.cil_locate.proofs.lines.put_source.Goals as goal

pub returns : goal.returns
returns g c =
    tells_three _ _ _ _ _ _ _ (rw c.window_of-window.ensures.window at c.put_source_line.ensures) c.put_gutter.ensures
    (rw c.window_of-window.ensures.window at c.put_mark.ensures)
