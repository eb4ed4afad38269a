use Rattle.std.proofs.Common.{append-nil, refl, sym}
use Rattle.cil_base.specs.MadeLists.{all_mapped, one_mapped}
use Rattle.cil_constraints.specs.Stated.{constraint_with}
use Rattle.cil_constraints.proofs.copies.push_each.Goals as goal

pub loop-one-init : goal.loop-one-init
loop-one-init c = sym (append-nil c.args.out.now.items)

pub loop-one-preserved : goal.loop-one-preserved
loop-one-preserved c = one_mapped (constraint_with c.args.steps.now) _ _ _ _ c.args.out.now.items _ _ c.loop-one-test.true refl c.loop-one.invariant c.in_ok-push_one.ensures

pub returns : goal.returns
returns c = all_mapped (constraint_with c.args.steps.now) _ _ c.args.out.now.items _ c.loop-one-test.false c.loop-one.invariant
