use Rattle.cil_words.proofs.asks.table.Goals as goal

pub returns : goal.returns
returns c = c.in_ok-fill.ensures.rows
