use Rattle.cil_words.proofs.settled_rows.is_declared.Goals as goal

pub returns : goal.returns
returns c = c.is_set.ensures
