use Rattle.cil_level_rows.proofs.AlikeLaws.{clears_alike}
use Rattle.cil_level_rows.proofs.laws.clears_alike.Goals as goal

pub returns : goal.returns
returns c = clears_alike
