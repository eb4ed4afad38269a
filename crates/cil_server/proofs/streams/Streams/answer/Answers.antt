use Rattle.std.proofs.Common.{ap, refl, subst}
use Rattle.cil_server.specs.Asked.{Line as said}
use Rattle.cil_server.specs.Asked.Request.{Imports, Installs}
use Rattle.cil_server.specs.Streams.{Tells, unread}
use Rattle.cil_server.specs.Turns.{IsAnswered}
use Rattle.cil_server.specs.Views.{line_of, plain_line, plain_request}
use Rattle.cil_server.specs.declared.served.Served.TheVariants as served
use Rattle.cil_server.specs.declared.turn.Turn.TheVariants as turns
use Rattle.cil_server.proofs.SessionLemmas.{alone, answered_after, answered_as, answered_by, bodied, imports, installs, is_whole, no_body, quits, too_big}
use Rattle.cil_server.proofs.StreamLemmas.{tells_after}
use Rattle.cil_server.proofs.streams.Streams.answer.Goals as goal

pub returns-in-Err-clause-answers : goal.returns-in-Err-clause-answers
returns-in-Err-clause-answers g c =
    answered_as (unread c.args.self.now.input) (unread c.body_behind.new.self.input) c.args.host.now c.args.host.now (Tells c.args.self.now.output c.body_behind.new.self.output)
    (line_of c.args.line) (said.Install c.in-Install.count) c.in-Err.turn (ap line_of c.in-Install.is)
    (c.in-Err.ensures.turn (said.Install c.in-Install.count) c.args.host.now (installs c.in-Install.count))

pub returns-in-Err-body_behind-clause-answers : goal.returns-in-Err-body_behind-clause-answers
returns-in-Err-body_behind-clause-answers g c =
    answered_as (unread c.args.self.now.input) (unread c.body_behind-in-Import.new.self.input) c.args.host.now c.args.host.now
    (Tells c.args.self.now.output c.body_behind-in-Import.new.self.output) (line_of c.args.line) (said.Import c.in-Import.count) c.in-Err-body_behind.turn (ap line_of c.in-Import.is)
    (c.in-Err-body_behind.ensures.turn (said.Import c.in-Import.count) c.args.host.now (imports c.in-Import.count))

pub returns-in-Ok-clause-answers : goal.returns-in-Ok-clause-answers
returns-in-Ok-clause-answers g c =
    let before = c.args.self.now.output in
    let after = c.body_behind.new.self.output in
    let tells = Tells before c.install.new.output in
    let body = c.in-Ok.ensures.body in
    let answered : IsAnswered c.args.host.now (Installs c.in-Ok.text.items) c.install.new.host tells =
    answered_after (Tells after c.install.new.output) tells (λ xs told. tells_after before after c.install.new.output xs c.in-Ok.ensures.told told) c.args.host.now c.install.new.host _
    (subst (λ z. IsAnswered c.args.host.now (Installs z) c.install.new.host (Tells after c.install.new.output)) c.as_slice.ensures.value c.install.ensures) in
    answered_as (unread c.args.self.now.input) (unread c.body_behind.new.self.input) c.args.host.now c.install.new.host tells (line_of c.args.line) (said.Install c.in-Install.count)
    turns.Next (ap line_of c.in-Install.is)
    (bodied (unread c.args.self.now.input) (unread c.body_behind.new.self.input) c.args.host.now c.install.new.host tells (said.Install c.in-Install.count) (Installs c.in-Ok.text.items)
    c.in-Ok.text.items body.0 body.1 refl answered)

pub returns-in-Ok-body_behind-clause-answers : goal.returns-in-Ok-body_behind-clause-answers
returns-in-Ok-body_behind-clause-answers g c =
    let before = c.args.self.now.output in
    let after = c.body_behind-in-Import.new.self.output in
    let tells = Tells before c.import.new.output in
    let body = c.in-Ok-body_behind.ensures.body in
    let answered : IsAnswered c.args.host.now (Imports c.in-Ok-body_behind.bundle.items) c.import.new.host tells =
    answered_after (Tells after c.import.new.output) tells (λ xs told. tells_after before after c.import.new.output xs c.in-Ok-body_behind.ensures.told told) c.args.host.now c.import.new.host _
    (subst (λ z. IsAnswered c.args.host.now (Imports z) c.import.new.host (Tells after c.import.new.output)) c.as_slice-in-Ok-body_behind.ensures.value c.import.ensures) in
    answered_as (unread c.args.self.now.input) (unread c.body_behind-in-Import.new.self.input) c.args.host.now c.import.new.host tells (line_of c.args.line)
    (said.Import c.in-Import.count) turns.Next (ap line_of c.in-Import.is)
    (bodied (unread c.args.self.now.input) (unread c.body_behind-in-Import.new.self.input) c.args.host.now c.import.new.host tells (said.Import c.in-Import.count)
    (Imports c.in-Ok-body_behind.bundle.items) c.in-Ok-body_behind.bundle.items body.0 body.1 refl answered)

pub returns-in-Plain-clause-answers : goal.returns-in-Plain-clause-answers
returns-in-Plain-clause-answers g c =
    let p = c.in-Plain.plain in
    let tells = Tells c.args.self.now.output c.reply.new.output in
    answered_as (unread c.args.self.now.input) (unread c.args.self.now.input) c.args.host.now c.reply.new.host tells (line_of c.args.line) (plain_line p) turns.Next (ap line_of c.in-Plain.is)
    (alone (unread c.args.self.now.input) (unread c.args.self.now.input) c.args.host.now c.reply.new.host tells (plain_line p) (plain_request p) refl (no_body p) (is_whole p) c.reply.ensures)

pub returns-in-TooBig-clause-answers : goal.returns-in-TooBig-clause-answers
returns-in-TooBig-clause-answers g c =
    let tells = Tells c.args.self.now.output c.refuse.new.self.output in
    let same = ap unread c.refuse.ensures.input in
    answered_as (unread c.args.self.now.input) (unread c.refuse.new.self.input) c.args.host.now c.args.host.now tells (line_of c.args.line) said.TooBig c.refuse.result
    (ap line_of c.in-TooBig.is)
    (answered_by (unread c.args.self.now.input) (unread c.refuse.new.self.input) c.args.host.now c.args.host.now tells said.TooBig c.refuse.result (turns.Ended (served.Fault 84))
    c.refuse.ensures.turn (too_big (unread c.args.self.now.input) (unread c.refuse.new.self.input) c.args.host.now tells same c.refuse.ensures.told))

pub returns-in-Quit-clause-answers : goal.returns-in-Quit-clause-answers
returns-in-Quit-clause-answers g c =
    answered_as (unread c.args.self.now.input) (unread c.args.self.now.input) c.args.host.now c.args.host.now (Tells c.args.self.now.output c.put.new.self) (line_of c.args.line)
    said.Quit (turns.Ended served.Quit) (ap line_of c.in-Quit.is)
    (quits (unread c.args.self.now.input) (unread c.args.self.now.input) c.args.host.now (Tells c.args.self.now.output c.put.new.self) refl c.put.ensures)
