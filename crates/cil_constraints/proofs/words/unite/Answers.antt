use Rattle.cil_constraints.proofs.WordLemmas.{united_set}
use Rattle.cil_constraints.proofs.words.unite.Goals as goal

pub returns : goal.returns
returns c = united_set _ _ _ c.in_ok-both.ensures
