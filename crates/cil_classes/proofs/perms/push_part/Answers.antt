use Rattle.std.proofs.Common.{inl, inr, subst}
use Rattle.std.proofs.lemmas.Result.{IfOk-from_err, on_ok_weaker}
use Rattle.cil_classes.specs.Pushed.{ArePushed}
use Rattle.cil_classes.proofs.perms.push_part.Goals as goal

pub returns-then-part-eq0 : goal.returns-then-part-eq0
returns-then-part-eq0 c =
    on_ok_weaker c.push_held.result
    (λ one. inl (c.if-part-eq0.true, subst (λ vs. ArePushed c.args.held.now vs c.args.out.now.items c.push_held.new.out.items) c.as_slice.ensures.value one)) c.push_held.ensures

pub returns : goal.returns
returns c = inr (c.if-part-eq0.false, c.in_ok-push.ensures.items)

pub returns-in_err-push : goal.returns-in_err-push
returns-in_err-push c = IfOk-from_err c.from_residual.result _ c.from_residual.ensures.0
