use Rattle.cil_commands.specs.Asked.{LeavesAnswer, RepliesOf}
use Rattle.cil_commands.specs.Told.{Says}
use Rattle.cil_commands.proofs.AskedLemmas.{unreadable}
use Rattle.cil_commands.proofs.ToldLemmas.{leaves_as}
use Rattle.cil_commands.proofs.asking.ask.Goals as goal

pub returns-in-Ok-decode-clause-answer : goal.returns-in-Ok-decode-clause-answer
returns-in-Ok-decode-clause-answer g c =
    LeavesAnswer.replied _ (leaves_as (Says c.replied.result) _ _ _ _ _
    (λ reply says. RepliesOf.asked _ reply _ c.in-Ok-decode.ensures.found (c.replied.ensures.says reply says)) c.tell.ensures.reply)

pub returns-in-Err-Fault-clause-answer : goal.returns-in-Err-Fault-clause-answer
returns-in-Err-Fault-clause-answer g c =
    LeavesAnswer.replied _ (leaves_as _ _ _ _ _ _ (λ reply says. unreadable _ _ _ _ reply c.in-Err-Fault.fault (rw c.in-Err-Fault.field-0-is at c.in-Err-Fault.ensures.fault) says) c.tell-in-Err-Fault.ensures.reply)
