use Rattle.cil_table_bytes.proofs.names.aliases_at.Goals as goal

pub returns : goal.returns
returns c = rw c.as_slice.ensures.value at c.section_at.ensures
