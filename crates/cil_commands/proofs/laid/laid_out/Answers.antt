use Rattle.cil_commands.proofs.LaidLemmas.{lack_laid}
use Rattle.cil_commands.proofs.laid.laid_out.Goals as goal

pub returns-in-Ok : goal.returns-in-Ok
returns-in-Ok c = c.accepted.ensures c.args.modules.now c.in-Ok.ensures.compiled.compiles

pub returns-in-Err-Faults : goal.returns-in-Err-Faults
returns-in-Err-Faults c = c.refused.ensures c.args.modules.now (rw c.in-Err-Faults.field-0-is at c.in-Err-Faults.ensures.faults)

pub returns-in-Err-NoMemory : goal.returns-in-Err-NoMemory
returns-in-Err-NoMemory c = lack_laid c.args.modules.now
