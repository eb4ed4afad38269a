use Rattle.cil_world.proofs.LawLemmas.{nothing_changes}
use Rattle.cil_world.proofs.laws.nothing_changes.Goals as goal

pub returns : goal.returns
returns c = nothing_changes
