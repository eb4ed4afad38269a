use Rattle.cil_settle.proofs.StepLemmas.{grew, plus_more, take_whole, counted_yes, counted_no}
use Rattle.std.proofs.Common.{arith, rules}
use Rattle.cil_settle.proofs.supports.lower_all.Goals as goal
use Rattle.cil_settle.proofs.supports.lower_all.Goals.{then-edge, else-edge}

pub loop-edge-preserved : goal.loop-edge-preserved
loop-edge-preserved c = (
  record {
    at = λ need h at. plus_more need h _ _ c.args.edges.now c.loop-edge.edge-index _ (omega arith) (c.in_ok-lower.ensures.at need _ (c.loop-edge.invariant.0.at need h at));
    grows = grew _ _ _ c.loop-edge.invariant.0.grows c.in_ok-lower.ensures.grows;
    len = search rules;
  },
  elim c.if-edge.branch [
    | then-edge w ↦ counted_yes c.args.edges.now c.loop-edge.edge-index _ _ _ (omega arith) w.if-edge.true w.lookups-is c.loop-edge.invariant.1
    | else-edge w ↦ counted_no c.args.edges.now c.loop-edge.edge-index _ _ _ (omega arith) w.if-edge.false w.lookups-is c.loop-edge.invariant.1
  ],
  elim c.if-edge.branch [ then-edge w ↦ search rules | else-edge w ↦ search rules ],
)

pub returns-clause-at : goal.returns-clause-at
returns-clause-at c need h at = take_whole need h _ _ c.args.edges.now c.loop-edge.edge-index (omega arith) (c.loop-edge.invariant.0.at need h at)
