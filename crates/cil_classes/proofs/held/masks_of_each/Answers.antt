use Rattle.std.specs.Prelude.{get_or}
use Rattle.std.proofs.Common.{refl}
use Rattle.std.proofs.lemmas.Result.{IfOk-from_err}
use Rattle.cil_classes.proofs.HeldLemmas.{are_held, classes_pushed, none_yet, one_held}
use Rattle.cil_classes.proofs.held.masks_of_each.Goals as goal

pub loop-class-init : goal.loop-class-init
loop-class-init c = none_yet c.args.givens.now c.args.count c.new-held.result.items c.new-held.ensures.items

pub loop-class-preserved : goal.loop-class-preserved
loop-class-preserved c = (
  classes_pushed c.args.classes.now c.loop-class.class-index 0 c.loop-class.held.items _ (record { class = get_or c.args.classes.now c.loop-class.class-index 0; masks = c.in_ok-masks.masks })
      c.loop-class-test.true refl c.in_ok-push.ensures.items c.loop-class.invariant.0,
  one_held c.args.givens.now c.args.count c.loop-class.held.items _ _ c.in_ok-push.ensures.items c.loop-class.invariant.1 c.in_ok-masks.ensures,
)

pub returns : goal.returns
returns c =
    are_held c.args.givens.now c.args.count c.loop-class.class-index c.args.classes.now c.loop-class.held.items c.loop-class-test.false c.loop-class.invariant.0 c.loop-class.invariant.1 c.requires.rising
    c.requires.all

pub masks_of-requires-clause-edges : goal.masks_of-requires-clause-edges
masks_of-requires-clause-edges c = c.requires.edges

pub masks_of-requires-clause-sorted : goal.masks_of-requires-clause-sorted
masks_of-requires-clause-sorted c = c.requires.sorted

pub masks_of-requires-clause-within : goal.masks_of-requires-clause-within
masks_of-requires-clause-within c = c.requires.within

pub returns-in_err-masks : goal.returns-in_err-masks
returns-in_err-masks c = IfOk-from_err c.from_residual.result _ c.from_residual.ensures.0

pub returns-in_err-push : goal.returns-in_err-push
returns-in_err-push c = IfOk-from_err c.from_residual-in_err-push.result _ c.from_residual-in_err-push.ensures.0
