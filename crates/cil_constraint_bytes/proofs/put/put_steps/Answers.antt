use Rattle.cil_constraint_bytes.specs.Spelled.{step_bytes}
use Rattle.cil_constraint_bytes.proofs.RecordLemmas.{last_put, next_put}
use Rattle.cil_constraint_bytes.proofs.put.put_steps.Goals as goal

pub loop-step-preserved : goal.loop-step-preserved
loop-step-preserved c =
    next_put step_bytes c.args.steps.now c.loop-step.step-index c.args.out.now.items c.step-item.result _ c.loop-step.out.items c.put_step.new.out.items
    c.loop-step-test.true c.step-item.is c.loop-step.invariant c.in_ok-put_step.ensures

pub returns : goal.returns
returns c = last_put step_bytes c.args.steps.now c.loop-step.step-index c.args.out.now.items c.loop-step.out.items c.loop-step-test.false c.loop-step.invariant
