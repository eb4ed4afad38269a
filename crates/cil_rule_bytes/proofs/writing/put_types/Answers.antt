use Rattle.cil_rule_bytes.proofs.writing.put_types.Goals as goal

pub returns-in-Several : goal.returns-in-Several
returns-in-Several c = rw c.in-Several.is (c.put_set.ensures 0)
