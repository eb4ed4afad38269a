use Rattle.cil_macros.proofs.Kept.{are_kept_whole}
use Rattle.cil_macros.proofs.laws.kept.Goals as goal

pub returns : goal.returns
returns c = are_kept_whole
