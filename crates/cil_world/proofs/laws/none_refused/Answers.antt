use Rattle.cil_world.proofs.LawLemmas.{none_refused}
use Rattle.cil_world.proofs.laws.none_refused.Goals as goal

pub returns : goal.returns
returns c = none_refused c.never_both.ensures
