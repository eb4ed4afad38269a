use Rattle.std.proofs.Common.{sym, ap, subst}
use Rattle.cil_server.specs.Replies.{no_memory, refused}
use Rattle.cil_server.specs.Streams.{Tells, unread}
use Rattle.cil_server.specs.Turns.{AnswersLine}
use Rattle.cil_server.specs.declared.served.Served.TheVariants as served
use Rattle.cil_server.specs.declared.turn.Turn.TheVariants as turns
use Rattle.cil_server.proofs.SessionLemmas.{answered_by, answered_there, body_cut, body_lacks, body_stops}
use Rattle.cil_server.proofs.StreamLemmas.{tells_after}
use Rattle.cil_server.proofs.streams.Streams.body_behind.Goals as goal

pub returns-in-Dropped-clause-turn : goal.returns-in-Dropped-clause-turn
returns-in-Dropped-clause-turn g c = λ line h a.
    body_lacks (unread c.args.self.now.input) (unread c.take_body.new.self.input) h (Tells c.args.self.now.output c.put_refused.new.output) line c.args.count a c.in-Dropped.ensures.body
    (tells_after c.args.self.now.output c.take_body.new.self.output c.put_refused.new.output no_memory c.in-Dropped.ensures.moves.told c.put_refused.ensures)

pub returns-in-Cut-clause-turn : goal.returns-in-Cut-clause-turn
returns-in-Cut-clause-turn g c = λ line h a.
    let cut = c.in-Cut.ensures.body in
    let tells = Tells c.args.self.now.output c.refuse.new.self.output in
    let told = tells_after c.args.self.now.output c.take_body.new.self.output c.refuse.new.self.output (refused 83) c.in-Cut.ensures.moves.told c.refuse.ensures.told in
    answered_by (unread c.args.self.now.input) (unread c.refuse.new.self.input) h h tells line c.refuse.result (turns.Ended (served.Fault 83)) c.refuse.ensures.turn
    (answered_there (unread c.args.self.now.input) (unread c.take_body.new.self.input) (unread c.refuse.new.self.input) h h tells line (turns.Ended (served.Fault 83))
    (ap unread c.refuse.ensures.input)
    (body_cut (unread c.args.self.now.input) (unread c.take_body.new.self.input) h tells line cut.0 (rw a.size cut.1) cut.2 cut.3 told))

pub returns-in-Failed-clause-turn : goal.returns-in-Failed-clause-turn
returns-in-Failed-clause-turn g c = λ line h a.
    let part = c.in-Failed.ensures.body in
    let tells = Tells c.args.self.now.output c.take_body.new.self.output in
    subst (λ e. AnswersLine line (unread c.args.self.now.input) (unread c.take_body.new.self.input) h h tells (turns.Ended e)) (sym c.ending.ensures)
    (body_stops (unread c.args.self.now.input) (unread c.take_body.new.self.input) h tells line part.0 c.in-Failed.broken (rw a.size part.1) part.2 c.in-Failed.ensures.moves.told)
