use Rattle.std.proofs.lemmas.Result.{IfOk-from_err}
use Rattle.cil_labels.proofs.RowLemmas.{none_gained, one_gained}
use Rattle.cil_labels.proofs.index.push_row.Goals as goal

pub returns-then-not-is_writable : goal.returns-then-not-is_writable
returns-then-not-is_writable c = none_gained c.args.name.now c.args.place c.args.rows.now.items _ c.is_writable.ensures c.if-not-is_writable.true

pub returns-in_err-name : goal.returns-in_err-name
returns-in_err-name c = IfOk-from_err c.from_residual.result _ c.from_residual.ensures.0

pub returns-in_err-push : goal.returns-in_err-push
returns-in_err-push c = IfOk-from_err c.from_residual-in_err-push.result _ c.from_residual-in_err-push.ensures.0

pub returns : goal.returns
returns c =
    one_gained c.args.name.now c.in_ok-name.name c.args.place _ _ (c.is_writable.ensures.0 c.if-not-is_writable.false) c.in_ok-name.ensures c.in_ok-push.ensures.items
