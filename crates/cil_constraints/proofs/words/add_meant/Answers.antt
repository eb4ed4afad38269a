use Rattle.cil_constraints.proofs.WordLemmas.{none_meant}
use Rattle.cil_constraints.proofs.words.add_meant.Goals as goal

pub returns-in_default : goal.returns-in_default
returns-in_default c = none_meant _ _ _ c.in_default.is
