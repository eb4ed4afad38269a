use Rattle.cil_table_bytes.proofs.reading.rules_at.Goals as goal

pub returns : goal.returns
returns c = rw c.rule_bounds-bounds.ensures at c.sections_at.ensures
