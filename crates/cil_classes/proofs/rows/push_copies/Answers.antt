use Rattle.std.specs.Prelude.{List, ℕ, ◌++◌, ◌∷◌, []}
use Rattle.std.proofs.Common.{◌∙◌, ap}
use Rattle.std.proofs.lemmas.List.{map-id}
use Rattle.std.proofs.lemmas.Result.{IfOk-from_err}
use Rattle.cil_base.specs.MadeLists.{one_mapped, all_mapped}
use Rattle.cil_classes.proofs.rows.push_copies.Goals as goal

pub loop-name-preserved : goal.loop-name-preserved
loop-name-preserved c =
    one_mapped (λ (n : List ℕ). n) _ _ _ _ _ _ _ c.loop-name-test.true c.name-item.is c.loop-name.invariant
    (c.in_ok-push.ensures.items ∙ ap (λ name. c.loop-name.copies.items ++ name ∷ []) (c.in_ok-copy_of.ensures ∙ c.as_slice.ensures))

pub returns : goal.returns
returns c = all_mapped (λ (n : List ℕ). n) _ _ c.args.copies.now.items _ c.loop-name-test.false c.loop-name.invariant ∙ ap (λ z. c.args.copies.now.items ++ z) (map-id c.args.names.now)

pub returns-in_err-copy_of : goal.returns-in_err-copy_of
returns-in_err-copy_of c = IfOk-from_err c.from_residual.result _ c.from_residual.ensures.0

pub returns-in_err-push : goal.returns-in_err-push
returns-in_err-push c = IfOk-from_err c.from_residual-in_err-push.result _ c.from_residual-in_err-push.ensures.0
