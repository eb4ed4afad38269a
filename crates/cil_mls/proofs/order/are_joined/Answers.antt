use Rattle.std.proofs.Common.{◌≡◌, true, false, arith}
use Rattle.cil_mls.proofs.order.are_joined.Goals as goal
use Rattle.cil_mls.proofs.EdgeLemmas.{joined_more, not_joined}

pub returns-then-not-leads : goal.returns-then-not-leads
returns-then-not-leads c = (
  λ f. absurd (let g : false ≡ true = f in cc),
  λ all. absurd (not_joined c.args.edges.now c.leaving_from.result.now c.args.order.now c.loop-at.at c.leaving_from.ensures
      (λ h. let t = c.leads.ensures.1 h in let n = c.if-not-leads.true in cc) c.loop-at.invariant.0 (omega (arith, c.loop-at-test.true)) all),
)

pub loop-at-preserved : goal.loop-at-preserved
loop-at-preserved c = joined_more c.args.edges.now c.leaving_from.result.now c.args.order.now c.loop-at.at c.leaving_from.ensures (c.leads.ensures.0 c.if-not-leads.false) c.loop-at.invariant
