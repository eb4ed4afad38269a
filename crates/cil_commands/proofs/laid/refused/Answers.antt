use Rattle.cil_commands.proofs.LaidLemmas.{lack_laid, refused_laid}
use Rattle.cil_commands.proofs.laid.refused.Goals as goal

pub returns-in-Ok : goal.returns-in-Ok
returns-in-Ok c = λ modules fails. refused_laid modules _ _ _ fails c.len.ensures.len c.in-Ok.ensures

pub returns-in-Err : goal.returns-in-Err
returns-in-Err c = λ modules fails. lack_laid modules
