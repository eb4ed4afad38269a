use Rattle.cil_commands.proofs.ToldLemmas.{is_sent}
use Rattle.cil_commands.proofs.reply.send.Goals as goal

pub returns-clause-sent : goal.returns-clause-sent
returns-clause-sent g c = λ before reply sound empty told.
    is_sent before c.args.output.now c.flush.new.self reply c.has_failed.result c.has_failed.ensures.failed c.flush.ensures.none c.flush.ensures.told sound empty told
