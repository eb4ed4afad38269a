use Rattle.cil_words.proofs.pairs.Pairs.found.Goals as goal

pub returns-in-Some : goal.returns-in-Some
returns-in-Some c = c.in-Some.ensures

pub returns : goal.returns
returns c = c.there-2.ensures
