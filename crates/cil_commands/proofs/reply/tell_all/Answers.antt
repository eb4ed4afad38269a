use Rattle.std.proofs.Common.{◌∙◌, ap}
use Rattle.cil_commands.specs.Told.{Says, sent_end}
use Rattle.cil_commands.proofs.ToldLemmas.{failures_left, left}
use Rattle.cil_commands.proofs.reply.tell_all.Goals as goal

pub returns-clause-reply : goal.returns-clause-reply
returns-clause-reply g c =
    left c.args.output.now c.send-is_sent.new.output c.put.ensures.bytes (Says c.args.reply) _ _ _ c.put.ensures.says
    (c.send-is_sent.ensures.sent c.args.output.now c.put.ensures.bytes c.requires.sound c.requires.empty c.put.ensures.told)
    (c.sent_end.ensures ∙ ap (sent_end c.send-is_sent.result) c.end_of.ensures)

pub returns-clause-failed : goal.returns-clause-failed
returns-clause-failed g c =
    failures_left c.args.output.now c.send-is_sent.new.output c.put.ensures.bytes c.args.reply _ _
    (c.send-is_sent.ensures.sent c.args.output.now c.put.ensures.bytes c.requires.sound c.requires.empty c.put.ensures.told)
    (c.sent_end.ensures ∙ ap (sent_end c.send-is_sent.result) c.end_of.ensures)
