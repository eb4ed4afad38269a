use Rattle.cil_level_rows.proofs.AlikeLaws.{reads_alike}
use Rattle.cil_level_rows.proofs.laws.reads_alike.Goals as goal

pub returns : goal.returns
returns c = reads_alike
