use Rattle.std.proofs.Common.{subst, sym}
use Rattle.cil_server.specs.Replies.{refused}
use Rattle.cil_server.specs.Step.{Step}
use Rattle.cil_server.specs.Streams.{Tells}
use Rattle.cil_server.specs.Turns.{IsAnswered}
use Rattle.cil_server.specs.Views.{plain_request}
use Rattle.cil_server.proofs.requests.reply.Goals as goal

pub returns-in-Load : goal.returns-in-Load
returns-in-Load g c =
    subst (λ p. IsAnswered c.args.host.now (plain_request p) c.load.new.host (Tells c.args.output.now c.load.new.output)) (sym c.in-Load.is) c.load.ensures.answers

pub returns-in-Unknown : goal.returns-in-Unknown
returns-in-Unknown g c =
    subst (λ p. IsAnswered c.args.host.now (plain_request p) c.args.host.now (Tells c.args.output.now c.put_refused.new.output)) (sym c.in-Unknown.is)
    (record { reply = refused 81; step = Step.unknown; told = c.put_refused.ensures })
