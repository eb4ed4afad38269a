use Rattle.cil_index.proofs.sets.Sets.of.Goals as goal

pub returns-clause-all : goal.returns-clause-all
returns-clause-all c = λ set has. c.sorted.ensures.all set (c.in_ok-gathered.ensures set has)
