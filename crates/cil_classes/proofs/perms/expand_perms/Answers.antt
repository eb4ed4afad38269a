use Rattle.std.proofs.lemmas.Result.{IfOk-from_err}
use Rattle.cil_classes.proofs.PushLemmas.{all_added}
use Rattle.cil_classes.proofs.perms.expand_perms.Goals as goal

pub returns : goal.returns
returns c = λ xs names f known apart rows given begin. all_added _ _ _ _ _ _ c.new-masks.ensures.items (c.in_ok-push_perms.ensures xs names f known apart rows given begin)

pub returns-in_err-push_perms : goal.returns-in_err-push_perms
returns-in_err-push_perms c = IfOk-from_err c.from_residual.result _ c.from_residual.ensures.0
