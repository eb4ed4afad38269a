use Rattle.std.proofs.Common.{◌∙◌, sym}
use Rattle.cil_server.proofs.EndLemmas.{empty_few, serves_all, serves_part}
use Rattle.cil_server.proofs.session.Session.finish.Goals as goal

pub returns-then-has_failed-clause-serves : goal.returns-then-has_failed-clause-serves
returns-then-has_failed-clause-serves g c = λ bytes before known wrote empty few.
    serves_part bytes before c.args.host.now c.run-served.new.host c.args.self.now.streams.output c.run-served.new.self.streams.input c.run-served.new.self.streams.output c.flush.new.self
    c.run-served.result (c.run-served.ensures.runs bytes known (empty_few c.args.self.now.streams.output empty)) c.run-served.ensures.at c.flush.ensures.told c.flush.ensures.idle wrote empty
    c.requires.writer few (sym c.has_failed.ensures.failed ∙ c.if-has_failed.true)

pub returns-clause-serves : goal.returns-clause-serves
returns-clause-serves g c = λ bytes before known wrote empty few.
    serves_all bytes before c.args.host.now c.run-served.new.host c.args.self.now.streams.output c.run-served.new.self.streams.input c.run-served.new.self.streams.output c.flush.new.self
    c.run-served.result (c.run-served.ensures.runs bytes known (empty_few c.args.self.now.streams.output empty)) c.run-served.ensures.at c.flush.ensures.told wrote empty
    c.requires.writer few c.flush.ensures.none (sym c.has_failed.ensures.failed ∙ c.if-has_failed.false)
