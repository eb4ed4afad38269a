use Rattle.cil_level_rows.proofs.NoLevels.{nothing_is_wrong}
use Rattle.cil_level_rows.proofs.laws.nothing_is_wrong.Goals as goal

pub returns : goal.returns
returns c = nothing_is_wrong
