use Rattle.std.proofs.lemmas.Result.{IfOk-from_err}
use Rattle.cil_classes.proofs.HeldLemmas.{class_added, class_kept}
use Rattle.cil_classes.proofs.held.push_class.Goals as goal

pub returns-then-given-eq0-clause-old : goal.returns-then-given-eq0-clause-old
returns-then-given-eq0-clause-old c = λ other there. there

pub returns-then-given-eq0-clause-new : goal.returns-then-given-eq0-clause-new
returns-then-given-eq0-clause-new c = λ some. absurd (some c.if-given-eq0.true)

pub returns-clause-old : goal.returns-clause-old
returns-clause-old c = class_kept c.args.classes.now.items _ c.args.given.now.part.class c.in_ok-push.ensures.items

pub returns-clause-new : goal.returns-clause-new
returns-clause-new c = λ some. class_added c.args.classes.now.items _ c.args.given.now.part.class c.in_ok-push.ensures.items

pub returns-in_err-push-clause-old : goal.returns-in_err-push-clause-old
returns-in_err-push-clause-old c = IfOk-from_err c.from_residual.result _ c.from_residual.ensures.0

pub returns-in_err-push-clause-new : goal.returns-in_err-push-clause-new
returns-in_err-push-clause-new c = IfOk-from_err c.from_residual.result _ c.from_residual.ensures.0
