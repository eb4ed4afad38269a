use Rattle.cil_settle.proofs.cycles.guessed_cycles.Goals as goal

pub returns-clause-ranks : goal.returns-clause-ranks
returns-clause-ranks c = let falls = rw c.in-Some.is at c.in_ok-on.ensures.ranks in rw (c.in_ok-ranks.ensures.items, c.as_slice.ensures.value) falls
