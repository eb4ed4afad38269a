use Rattle.std.proofs.Common.{arith, length, ◌<◌, false}
use Rattle.cil_settle.specs.declared.edge.Edge.{Edge}
use Rattle.cil_settle.proofs.CheckLemmas.{inner_all, inner_not, inner_yes}
use Rattle.cil_settle.proofs.check.unsorted.Goals as goal
use Rattle.cil_settle.proofs.check.unsorted.Goals.{then-is_inner+in_ok-push, else-is_inner}

abbrev empty : Edge
empty = record { from = 0; to = 0; counted = false }

pub loop-edge-preserved : goal.loop-edge-preserved
loop-edge-preserved c =
    let within : c.loop-edge.edge-index < length c.args.edges.now = omega arith in
    elim c.if-is_inner.branch [
      | then-is_inner+in_ok-push w ↦ rw (w.inner-is, w.in_ok-push.ensures.items) (inner_yes c.args.edges.now c.loop-edge.edge-index empty _ _ _ within c.loop-edge.invariant (c.is_inner.ensures.0 w.if-is_inner.true))
      | else-is_inner w ↦ rw w.inner-is (inner_not c.args.edges.now c.loop-edge.edge-index empty _ _ _ within c.loop-edge.invariant (λ i. absurd (let e = c.is_inner.ensures.1 i in let f = w.if-is_inner.false in cc)))
    ]

pub returns : goal.returns
returns c = inner_all c.args.edges.now c.loop-edge.edge-index _ _ _ (omega arith) c.loop-edge.invariant
