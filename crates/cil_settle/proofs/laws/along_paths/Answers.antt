use Rattle.cil_settle.proofs.PathLemmas.{along_paths}
use Rattle.cil_settle.proofs.laws.along_paths.Goals as goal

pub returns : goal.returns
returns c = along_paths
