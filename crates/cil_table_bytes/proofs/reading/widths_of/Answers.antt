use Rattle.cil_table_bytes.proofs.reading.widths_of.Goals as goal

pub returns : goal.returns
returns c = rw c.as_slice.ensures.value at c.widths_in.ensures
