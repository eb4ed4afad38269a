use Rattle.std.proofs.Common.{refl}
use Rattle.std.proofs.lemmas.Result.{IfOk-from_err}
use Rattle.cil_classes.proofs.PushLemmas.{all_pushed, none_pushed, one_pushed}
use Rattle.cil_classes.proofs.perms.push_held.Goals as goal

pub loop-one-init : goal.loop-one-init
loop-one-init c = none_pushed c.args.held.now c.args.from.now _ _ refl

pub loop-one-preserved : goal.loop-one-preserved
loop-one-preserved c =
    one_pushed c.args.held.now c.loop-one.one-index _ c.one-item.result c.args.from.now _ _ _ c.loop-one-test.true c.one-item.is c.loop-one.invariant c.in_ok-push_union.ensures

pub returns : goal.returns
returns c = all_pushed c.args.held.now c.loop-one.one-index c.args.from.now _ _ c.loop-one-test.false c.loop-one.invariant

pub returns-in_err-push_union : goal.returns-in_err-push_union
returns-in_err-push_union c = IfOk-from_err c.from_residual.result _ c.from_residual.ensures.0
