use Rattle.std.proofs.Common.{◌∙◌, ◌<◌, rules, subst, sym}
use Rattle.std.proofs.lemmas.List.{length-set}
use Rattle.cil_attrs.proofs.TargetLemmas.{all_lasts, is_there, more_lasts, no_lasts, step_taken, step_there}
use Rattle.cil_attrs.proofs.targets.lasts_of.Goals as goal

pub loop-step-init : goal.loop-step-init
loop-step-init c = (c.in_ok-lasts.ensures.len, no_lasts c.args.steps.now c.in_ok-lasts.lasts.items c.in_ok-lasts.ensures.none)

pub index_mut-requires : goal.index_mut-requires
index_mut-requires c =
    let here = step_there c.args.steps.now c.loop-step.step-index in
    let within = subst (λ n. here.alias < n) (sym c.loop-step.invariant.0) (c.requires here (is_there c.args.steps.now c.loop-step.step-index c.loop-step-test.true)) in
    search (rules, within)

pub loop-step-preserved : goal.loop-step-preserved
loop-step-preserved c =
    let here = step_there c.args.steps.now c.loop-step.step-index in
    let within = subst (λ n. here.alias < n) (sym c.loop-step.invariant.0) (c.requires here (is_there c.args.steps.now c.loop-step.step-index c.loop-step-test.true)) in (
      length-set c.loop-step.lasts.items _ _ ∙ c.loop-step.invariant.0,
      more_lasts c.args.steps.now c.loop-step.step-index here (step_taken c.args.steps.now c.loop-step.step-index c.loop-step-test.true) c.loop-step.lasts.items within c.loop-step.invariant.1,
    )

pub returns-clause-lasts : goal.returns-clause-lasts
returns-clause-lasts c = all_lasts c.args.steps.now c.loop-step.step-index c.loop-step.lasts.items c.loop-step-test.false c.loop-step.invariant.1
