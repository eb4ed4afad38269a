use Rattle.std.proofs.Common.{◌≡◌, arith, subst}
use Rattle.cil_blocks.specs.Steps.{HaveWayBack}
use Rattle.cil_blocks.proofs.StepLemmas.{flagged_back, none_found, none_more, not_back, one_found}
use Rattle.cil_blocks.proofs.cycles.flagged.Goals as goal

pub loop-number-init : goal.loop-number-init
loop-number-init c = none_found c.args.steps.now.parts.now c.args.steps.now.targets.now c.new-found.result.items c.new-found.ensures.items

pub loop-number-preserved-then-not-is_flagged : goal.loop-number-preserved-then-not-is_flagged
loop-number-preserved-then-not-is_flagged c =
    none_more c.args.steps.now.parts.now c.args.steps.now.targets.now c.loop-number.number c.loop-number.found.items
    (not_back c.args.steps.now.parts.now c.args.steps.now.targets.now c.args.steps.now.count c.loop-number.number c.args.flags.now c.is_flagged.result
    c.loop-number-test.true c.requires c.if-not-is_flagged.true c.is_flagged.ensures)
    c.loop-number.invariant

pub loop-number-preserved : goal.loop-number-preserved
loop-number-preserved c =
    one_found c.args.steps.now.parts.now c.args.steps.now.targets.now c.loop-number.number c.loop-number.found.items c.push.new.self.items
    (flagged_back c.args.steps.now.parts.now c.args.steps.now.targets.now c.args.steps.now.count c.loop-number.number c.args.flags.now c.is_flagged.result
    c.loop-number-test.true c.requires c.if-not-is_flagged.false c.is_flagged.ensures)
    c.in_ok-push.ensures.items c.loop-number.invariant

pub returns : goal.returns
returns c =
    let h = c.loop-number-test.false in
    let e = c.loop-number.auto.number-end in
    let same : c.loop-number.number ≡ c.args.steps.now.count = omega (arith, h, e) in
    subst (λ n. HaveWayBack c.args.steps.now.parts.now c.args.steps.now.targets.now n c.loop-number.found.items) same c.loop-number.invariant
