use Rattle.std.proofs.Common.{List, ℕ, ◌++◌, ◌∙◌, ap}
use Rattle.std.proofs.lemmas.Result.{IfOk-from_err}
use Rattle.cil_classes.proofs.rows.copied_all.Goals as goal

pub returns : goal.returns
returns c = c.from_vec.ensures ∙ c.in_ok-push_copies.ensures ∙ ap (λ (ns : List (List ℕ)). ns ++ c.args.names.now) c.new-copies.ensures.items

pub returns-in_err-push_copies : goal.returns-in_err-push_copies
returns-in_err-push_copies c = IfOk-from_err c.from_residual.result _ c.from_residual.ensures.0
