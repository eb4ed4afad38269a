use Rattle.std.proofs.lemmas.Result.{IfOk-from_err}
use Rattle.cil_classes.proofs.LeadLemmas.{not_pushed, pushed}
use Rattle.cil_classes.proofs.parts.push_if.Goals as goal

pub returns-then-not-wanted : goal.returns-then-not-wanted
returns-then-not-wanted c = not_pushed c.args.from.now.items c.args.wanted c.args.v c.if-not-wanted.true

pub returns : goal.returns
returns c = pushed c.args.from.now.items _ c.args.wanted c.args.v c.if-not-wanted.false c.in_ok-push.ensures.items

pub returns-in_err-push : goal.returns-in_err-push
returns-in_err-push c = IfOk-from_err c.from_residual.result _ c.from_residual.ensures.0
