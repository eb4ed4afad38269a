use Rattle.cil_commands.proofs.LaidLemmas.{accepted_laid, lack_laid}
use Rattle.cil_commands.proofs.laid.accepted.Goals as goal

pub returns-in-Ok : goal.returns-in-Ok
returns-in-Ok c = λ modules compiles. accepted_laid modules _ _ _ _ compiles c.in-Ok.ensures c.as_slice.ensures.value c.told.ensures

pub returns-in-Err : goal.returns-in-Err
returns-in-Err c = λ modules compiles. lack_laid modules
