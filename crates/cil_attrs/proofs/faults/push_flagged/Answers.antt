use Rattle.cil_attrs.proofs.TargetLemmas.{is_there, step_taken, step_there}
use Rattle.cil_attrs.proofs.ToldLemmas.{all_told, more_told, none_told}
use Rattle.cil_attrs.proofs.faults.push_flagged.Goals as goal

pub loop-step-init : goal.loop-step-init
loop-step-init c = none_told c.args.steps.now _ _ c.args.steps.now

pub push_step-requires : goal.push_step-requires
push_step-requires c = c.requires (step_there c.args.steps.now c.loop-step.step-index) (is_there c.args.steps.now c.loop-step.step-index c.loop-step-test.true)

pub loop-step-preserved : goal.loop-step-preserved
loop-step-preserved c =
    more_told c.args.steps.now _ _ c.loop-step.step-index (step_there c.args.steps.now c.loop-step.step-index) _ _ (step_taken c.args.steps.now c.loop-step.step-index c.loop-step-test.true)
    c.in_ok-push_step.ensures c.loop-step.invariant

pub returns : goal.returns
returns c = all_told c.args.steps.now _ _ c.loop-step.step-index _ c.loop-step-test.false c.loop-step.invariant
