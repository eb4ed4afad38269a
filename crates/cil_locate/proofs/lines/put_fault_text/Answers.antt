use Rattle.cil_server.proofs.StreamLemmas.{tells_four}
use Rattle.cil_locate.proofs.lines.put_fault_text.Goals as goal

pub returns : goal.returns
returns g c =
    tells_four _ _ _ _ _ _ _ _ _ (rw (c.number.ensures, c.sentence.ensures) at c.put_cause.ensures) (rw c.as_slice.ensures at c.put_word.ensures)
    (rw c.as_slice-2.ensures at c.put_space.ensures) c.put.ensures
