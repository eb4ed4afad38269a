use Rattle.std.proofs.lemmas.Result.{IfOk-from_err}
use Rattle.cil_classes.proofs.HeldLemmas.{all_classes, as_filtered, classes_rise, more_classes}
use Rattle.cil_classes.proofs.held.classes_given.Goals as goal

pub loop-given-preserved : goal.loop-given-preserved
loop-given-preserved c =
    more_classes c.args.givens.now c.loop-given.given-index c.given-item.result c.loop-given.classes.items _ c.loop-given-test.true c.given-item.is c.loop-given.invariant
    c.in_ok-push_class.ensures.old c.in_ok-push_class.ensures.new

pub returns-clause-rising : goal.returns-clause-rising
returns-clause-rising c = classes_rise _ _ _ c.sort_unstable.ensures.permutation c.sort_unstable.ensures.sorted (as_filtered _ _ c.dedup.ensures.filtered)

pub returns-clause-all : goal.returns-clause-all
returns-clause-all c =
    all_classes c.args.givens.now c.loop-given.given-index _ _ _ c.sort_unstable.ensures.permutation c.sort_unstable.ensures.sorted (as_filtered _ _ c.dedup.ensures.filtered) c.loop-given-test.false c.loop-given.invariant

pub returns-in_err-push_class-clause-rising : goal.returns-in_err-push_class-clause-rising
returns-in_err-push_class-clause-rising c = IfOk-from_err c.from_residual.result _ c.from_residual.ensures.0

pub returns-in_err-push_class-clause-all : goal.returns-in_err-push_class-clause-all
returns-in_err-push_class-clause-all c = IfOk-from_err c.from_residual.result _ c.from_residual.ensures.0
