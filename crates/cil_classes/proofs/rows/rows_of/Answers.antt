use Rattle.std.proofs.Common.{ap, ◌∙◌}
use Rattle.cil_names.specs.Unresolved.{listed_at}
use Rattle.std.proofs.lemmas.Result.{IfOk-from_err}
use Rattle.cil_classes.proofs.ClassRowLemmas.{listed_all, listed_begun, listed_more}
use Rattle.cil_classes.proofs.rows.rows_of.Goals as goal

pub loop-number-init : goal.loop-number-init
loop-number-init c = listed_begun c.args.names.now c.args.places.now c.args.permissions.now _ c.new-rows.ensures.items

pub loop-number-preserved : goal.loop-number-preserved
loop-number-preserved c =
    listed_more c.args.names.now c.args.places.now c.args.permissions.now c.loop-number.number _ _ _ _ c.loop-number-test.true c.index-names-number.is
    (c.in_ok-copy_of.ensures ∙ c.as_slice.ensures) (c.in_ok-permissions_at.ensures ∙ ap (listed_at c.args.permissions.now) c.number_at.ensures) c.in_ok-push.ensures.items
    c.loop-number.invariant

pub returns : goal.returns
returns c = listed_all c.args.names.now c.args.places.now c.args.permissions.now _ _ c.loop-number-test.false c.loop-number.invariant

pub returns-in_err-copy_of : goal.returns-in_err-copy_of
returns-in_err-copy_of c = IfOk-from_err c.from_residual.result _ c.from_residual.ensures.0

pub returns-in_err-permissions_at : goal.returns-in_err-permissions_at
returns-in_err-permissions_at c = IfOk-from_err c.from_residual-in_err-permissions_at.result _ c.from_residual-in_err-permissions_at.ensures.0

pub returns-in_err-push : goal.returns-in_err-push
returns-in_err-push c = IfOk-from_err c.from_residual-in_err-push.result _ c.from_residual-in_err-push.ensures.0
