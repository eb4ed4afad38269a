use Rattle.cil_constraints.proofs.StepLists.{all_taken, one_taken}
use Rattle.cil_constraints.proofs.copies.copies_of.Goals as goal

pub loop-step-preserved : goal.loop-step-preserved
loop-step-preserved c = one_taken _ _ _ c.step-item.result _ _ c.loop-step-test.true c.step-item.is c.loop-step.invariant c.in_ok-push_copy.ensures

pub returns : goal.returns
returns c = all_taken _ _ _ c.loop-step-test.false c.loop-step.invariant
