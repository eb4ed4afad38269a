use Rattle.std.specs.Prelude.{None}
use Rattle.std.proofs.Common.{subst}
use Rattle.cil_server.specs.Streams.{unread}
use Rattle.cil_server.specs.Taken.{Fills}
use Rattle.cil_server.proofs.InputLemmas.{body_cut_at, body_more, body_part_at, moves_both, moves_skipped, part_few, skip_state}
use Rattle.cil_server.proofs.streams.Streams.take_body.Goals as goal

pub loop-left-preserved : goal.loop-left-preserved
loop-left-preserved g c = record {
  taken =
      body_more (unread c.args.self.now.input) (unread c.loop-left.self.input) (unread c.fill.new.self.input) (unread c.skip.new.self) _ _ _ _ _ c.loop-left.invariant.taken
      c.in-Ok-true.ensures.keeps (skip_state c.fill.new.self.input c.skip.new.self _ _ c.as_slice-part.ensures c.skip.ensures.buffered c.skip.ensures.left)
      (part_few _ _ _ _ c.min.ensures) c.extended-held.ensures;
  moves = moves_skipped _ _ _ _ _ (moves_both _ _ _ _ _ _ None c.loop-left.invariant.moves c.in-Ok-true.ensures.moves) c.skip.ensures.failures c.skip.ensures.reader;
}

pub returns-in-Ok-false-clause-body : goal.returns-in-Ok-false-clause-body
returns-in-Ok-false-clause-body g c =
    body_cut_at (unread c.args.self.now.input) (unread c.loop-left.self.input) (unread c.fill.new.self.input) _ _ _ c.loop-left.invariant.taken c.loop-left-test.true
    c.in-Ok-false.ensures.keeps
    (subst (λ b. Fills c.fill.new.self.input.buffered (unread c.fill.new.self.input) b) c.in-Ok-false.field-0-test c.in-Ok-false.ensures.fills)

pub returns-in-Ok-false-clause-moves : goal.returns-in-Ok-false-clause-moves
returns-in-Ok-false-clause-moves g c = moves_both _ _ _ _ _ _ None c.loop-left.invariant.moves c.in-Ok-false.ensures.moves

pub returns-in-Err-clause-body : goal.returns-in-Err-clause-body
returns-in-Err-clause-body g c =
    body_part_at (unread c.args.self.now.input) (unread c.loop-left.self.input) (unread c.fill.new.self.input) _ _ _ c.loop-left.invariant.taken c.loop-left-test.true
    c.in-Err.ensures.keeps

pub returns-in-Err-clause-moves : goal.returns-in-Err-clause-moves
returns-in-Err-clause-moves g c = moves_both _ _ _ _ _ _ _ c.loop-left.invariant.moves c.in-Err.ensures.moves
