use Rattle.std.proofs.Common.{◌∙◌, ◌<◌, subst, sym}
use Rattle.cil_attrs.proofs.TargetLemmas.{all_others, is_there, more_others, no_others, step_taken, step_there}
use Rattle.cil_attrs.proofs.targets.twice_flags.Goals as goal

pub loop-step-init : goal.loop-step-init
loop-step-init c = (c.in_ok-flags.ensures.len, no_others c.args.steps.now c.args.lasts.now c.in_ok-flags.flags.items c.in_ok-flags.ensures.none)

pub flag_other-requires : goal.flag_other-requires
flag_other-requires c =
    let here = step_there c.args.steps.now c.loop-step.step-index in
    subst (λ n. here.alias < n) (sym c.loop-step.invariant.0) (c.requires here (is_there c.args.steps.now c.loop-step.step-index c.loop-step-test.true))

pub loop-step-preserved : goal.loop-step-preserved
loop-step-preserved c = (
  c.flag_other.ensures.len ∙ c.loop-step.invariant.0,
  more_others c.args.steps.now c.loop-step.step-index (step_there c.args.steps.now c.loop-step.step-index) (step_taken c.args.steps.now c.loop-step.step-index c.loop-step-test.true) c.args.lasts.now _ _
      c.flag_other.ensures.flagged c.loop-step.invariant.1,
)

pub returns : goal.returns
returns c = all_others c.args.steps.now c.loop-step.step-index c.args.lasts.now c.loop-step.flags.items c.loop-step-test.false c.loop-step.invariant.1
