use Rattle.std.proofs.Common.{arith, rules, ap, ◌∙◌}
use Rattle.cil_settle.proofs.StartLemmas.{started_yes, started_no}
use Rattle.cil_settle.proofs.supports.at_start.Goals as goal
use Rattle.cil_settle.proofs.supports.at_start.Goals.{then-count-eq0+in_ok-push, else-count-eq0}

pub loop-node-preserved : goal.loop-node-preserved
loop-node-preserved c =
    elim c.if-count-eq0.branch [
      | then-count-eq0+in_ok-push w ↦ rw (ap (λ o. o.items) w.order-is ∙ w.in_ok-push.ensures.items) (started_yes c.args.left.now c.loop-node.order.items c.loop-node.node (omega arith) (search rules) c.loop-node.invariant)
      | else-count-eq0 w ↦ rw (ap (λ o. o.items) w.order-is) (started_no c.args.left.now c.loop-node.order.items c.loop-node.node (omega arith) (search rules) c.loop-node.invariant)
    ]
