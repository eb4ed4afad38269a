use Rattle.std.proofs.Common.{◌≡◌, arith, subst}
use Rattle.cil_blocks.specs.Steps.{AreSteps}
use Rattle.cil_blocks.proofs.GraphLemmas.{more_steps, no_steps}
use Rattle.cil_blocks.proofs.graph.unsorted.Goals as goal

pub loop-number-init : goal.loop-number-init
loop-number-init c = no_steps c.args.steps.now.parts.now c.args.steps.now.targets.now c.new-edges.result.items c.new-edges.ensures.items

pub loop-number-preserved : goal.loop-number-preserved
loop-number-preserved c =
    more_steps c.args.steps.now.parts.now c.args.steps.now.targets.now c.loop-number.number c.parts_at.result.now c.at.result.now c.loop-number.edges.items _ _
    c.parts_at.ensures c.at.ensures c.in_ok-push_edges.ensures c.in_ok-push_edges-2.ensures c.loop-number.invariant

pub returns : goal.returns
returns c =
    let h = c.loop-number-test.false in
    let e = c.loop-number.auto.number-end in
    let same : c.loop-number.number ≡ c.args.steps.now.count = omega (arith, h, e) in
    subst (λ n. AreSteps c.args.steps.now.parts.now c.args.steps.now.targets.now n c.loop-number.edges.items) same c.loop-number.invariant
