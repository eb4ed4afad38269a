use Rattle.std.proofs.Common.{◌∙◌, sym, ap, subst, take, arith}
use Rattle.std.proofs.lemmas.List.{length-take}
use Rattle.cil_server.specs.Asked.{asked}
use Rattle.cil_server.specs.Replies.{refused}
use Rattle.cil_server.specs.Streams.{Tells, unread}
use Rattle.cil_server.specs.Turns.{TurnOf}
use Rattle.cil_server.specs.declared.served.Served.TheVariants as served
use Rattle.cil_server.specs.declared.turn.Turn.TheVariants as turns
use Rattle.cil_server.proofs.SessionLemmas.{ended_by, ends, line_answered, line_cut, line_stops, line_too_long, turn_after, turn_there}
use Rattle.cil_server.proofs.StreamLemmas.{tells_after}
use Rattle.cil_server.proofs.session.Session.next_turn.Goals as goal

pub returns-in-Whole-clause-turn : goal.returns-in-Whole-clause-turn
returns-in-Whole-clause-turn g c = λ bytes known.
    let l = c.in-Whole.ensures.line in
    let few = length-take c.in-Whole.count c.take_line.new.line.items in
    let before = c.args.self.now.streams.output in
    let after = c.take_line.new.self.output in
    turn_after (Tells after c.answer.new.self.output) (Tells before c.answer.new.self.output)
    (λ xs told. tells_after before after c.answer.new.self.output xs c.in-Whole.ensures.moves.told told) bytes (unread c.answer.new.self.input) c.args.host.now c.answer.new.host
    c.answer.result
    (line_answered (unread c.args.self.now.streams.input) (unread c.take_line.new.self.input) (unread c.answer.new.self.input) c.args.host.now c.answer.new.host
    (Tells after c.answer.new.self.output) c.answer.result bytes (take c.in-Whole.count c.take_line.new.line.items) _ known l.1 (omega (arith, few, l.0)) l.2
    (c.read_line-line.ensures ∙ ap (λ z. asked (take c.in-Whole.count z)) c.deref.ensures.value) c.answer.ensures.answers)

pub returns-in-End-clause-turn : goal.returns-in-End-clause-turn
returns-in-End-clause-turn g c = λ bytes known.
    let l = c.in-End.ensures.line in
    ends (unread c.args.self.now.streams.input) (unread c.take_line.new.self.input) c.args.host.now (Tells c.args.self.now.streams.output c.take_line.new.self.output) bytes known l.0 l.1
    c.in-End.ensures.moves.told

pub returns-in-TooLong-clause-turn : goal.returns-in-TooLong-clause-turn
returns-in-TooLong-clause-turn g c = λ bytes known.
    let before = c.args.self.now.streams.output in
    let after = c.take_line.new.self.output in
    let tells = Tells before c.refuse.new.self.output in
    let told = tells_after before after c.refuse.new.self.output (refused 82) c.in-TooLong.ensures.moves.told c.refuse.ensures.told in
    turn_there (unread c.take_line.new.self.input) (unread c.refuse.new.self.input) c.args.host.now c.args.host.now tells bytes c.refuse.result (ap unread c.refuse.ensures.input)
    (ended_by (unread c.args.self.now.streams.input) (unread c.take_line.new.self.input) c.args.host.now c.args.host.now tells bytes c.refuse.result (served.Fault 82) c.refuse.ensures.turn
    (line_too_long (unread c.args.self.now.streams.input) (unread c.take_line.new.self.input) c.args.host.now tells bytes c.take_line.new.line.items known c.in-TooLong.ensures.line
    (c.in-TooLong.ensures.len ∙ c.requires.room) told))

pub returns-in-Cut-clause-turn : goal.returns-in-Cut-clause-turn
returns-in-Cut-clause-turn g c = λ bytes known.
    let l = c.in-Cut.ensures.line in
    let whole = c.in-Cut.ensures.len ∙ c.requires.room in
    let before = c.args.self.now.streams.output in
    let after = c.take_line.new.self.output in
    let tells = Tells before c.refuse-in-Cut.new.self.output in
    let told = tells_after before after c.refuse-in-Cut.new.self.output (refused 83) c.in-Cut.ensures.moves.told c.refuse-in-Cut.ensures.told in
    turn_there (unread c.take_line.new.self.input) (unread c.refuse-in-Cut.new.self.input) c.args.host.now c.args.host.now tells bytes c.refuse-in-Cut.result
    (ap unread c.refuse-in-Cut.ensures.input)
    (ended_by (unread c.args.self.now.streams.input) (unread c.take_line.new.self.input) c.args.host.now c.args.host.now tells bytes c.refuse-in-Cut.result (served.Fault 83)
    c.refuse-in-Cut.ensures.turn
    (line_cut (unread c.args.self.now.streams.input) (unread c.take_line.new.self.input) c.args.host.now tells bytes c.take_line.new.line.items l.0 known
    (omega (arith, l.2.few, whole)) l.1 l.2 l.3 told))

pub returns-in-Failed-clause-turn : goal.returns-in-Failed-clause-turn
returns-in-Failed-clause-turn g c = λ bytes known.
    let l = c.in-Failed.ensures.line in
    let whole = c.in-Failed.ensures.len ∙ c.requires.room in
    let tells = Tells c.args.self.now.streams.output c.take_line.new.self.output in
    subst (λ e. TurnOf bytes (unread c.take_line.new.self.input) c.args.host.now c.args.host.now tells (turns.Ended e)) (sym c.ending.ensures)
    (line_stops (unread c.args.self.now.streams.input) (unread c.take_line.new.self.input) c.args.host.now tells bytes c.take_line.new.line.items l.0 c.in-Failed.broken known
    (omega (arith, l.1.few, whole)) l.1 c.in-Failed.ensures.moves.told)
