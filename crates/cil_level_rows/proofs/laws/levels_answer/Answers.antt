use Rattle.cil_level_rows.proofs.OneFaultLemmas.{levels_answer}
use Rattle.cil_level_rows.proofs.laws.levels_answer.Goals as goal

pub returns : goal.returns
returns c = levels_answer
