use Rattle.std.proofs.Common.{◌∙◌, refl, sym, arith}
use Rattle.cil_server.specs.Streams.{unread}
use Rattle.cil_server.proofs.SessionLemmas.{goes_none, goes_then, run_ends, run_full, run_lost, up_to_more, up_to_none}
use Rattle.cil_server.proofs.session.Session.run.Goals as goal

pub loop-count-init : goal.loop-count-init
loop-count-init g c = record {
  room = c.requires.room;
  sound = c.requires.writer;
  goes = goes_none c.args.self.now.streams.input c.args.self.now.streams.output;
  up_to = λ bytes known few. up_to_none bytes (unread c.args.self.now.streams.input) c.args.host.now c.args.self.now.streams.output known few;
}

pub loop-count-preserved : goal.loop-count-preserved
loop-count-preserved g c = record {
  room = c.in-Next.ensures.room;
  sound = sym c.has_failed.ensures.failed ∙ c.if-has_failed.false;
  goes = goes_then _ _ _ _ _ _ _ c.loop-count.invariant.goes c.in-Next.ensures.goes;
  up_to = λ bytes known few.
      up_to_more bytes c.loop-count._count (unread c.loop-count.self.streams.input) (unread c.next_turn.new.self.streams.input) c.args.host.now c.loop-count.host c.next_turn.new.host
      c.args.self.now.streams.output c.loop-count.self.streams.output c.next_turn.new.self.streams.output (c.loop-count.invariant.up_to bytes known few) c.in-Next.ensures.turn
      c.has_failed.ensures.few;
}

pub returns-in-Ended-clause-runs : goal.returns-in-Ended-clause-runs
returns-in-Ended-clause-runs g c = λ bytes known few.
    run_ends bytes c.loop-count._count (unread c.loop-count.self.streams.input) c.next_turn.new.self.streams.input c.args.host.now c.loop-count.host c.next_turn.new.host
    c.args.self.now.streams.output c.loop-count.self.streams.output c.next_turn.new.self.streams.output c.in-Ended.served c.loop-count-test.true
    (c.loop-count.invariant.up_to bytes known few) c.loop-count.invariant.sound c.in-Ended.ensures.turn c.in-Ended.ensures.at.0

pub returns-then-has_failed-clause-runs : goal.returns-then-has_failed-clause-runs
returns-then-has_failed-clause-runs g c = λ bytes known few.
    run_lost bytes c.loop-count._count (unread c.loop-count.self.streams.input) c.next_turn.new.self.streams.input c.args.host.now c.loop-count.host c.next_turn.new.host
    c.args.self.now.streams.output c.loop-count.self.streams.output c.next_turn.new.self.streams.output c.loop-count-test.true
    (c.loop-count.invariant.up_to bytes known few) c.loop-count.invariant.sound c.in-Next.ensures.turn

pub returns-clause-runs : goal.returns-clause-runs
returns-clause-runs g c = λ bytes known few.
    run_full bytes c.loop-count._count (unread c.loop-count.self.streams.input) c.loop-count.self.streams.input c.args.host.now c.loop-count.host c.loop-count.host
    c.args.self.now.streams.output c.loop-count.self.streams.output c.put_refused.new.output (omega (arith, c.loop-count-test.false)) (omega (arith, c.loop-count.auto._count-end))
    (c.loop-count.invariant.up_to bytes known few) c.loop-count.invariant.sound refl refl c.put_refused.ensures
