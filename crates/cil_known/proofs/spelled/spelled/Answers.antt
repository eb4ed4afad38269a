use Rattle.std.proofs.Common.{◌≡◌, List, ℕ, ◌++◌, ◌∷◌, ◌∙◌, ap, subst}
use Rattle.std.specs.Prelude.{IfOk}
use Rattle.std.proofs.lemmas.Result.{IfOk-weaker}
use Rattle.cil_known.proofs.SpelledLemmas.{global_spelled, inner_spelled}
use Rattle.cil_known.proofs.spelled.spelled.Goals as goal

pub returns-then-space-eq0 : goal.returns-then-space-eq0
returns-then-space-eq0 c =
    subst (λ (name : List ℕ). IfOk c.copy_of.result (λ bytes. bytes ≡ name)) (global_spelled c.args.namespaces.now c.args.name.now c.args.space c.if-space-eq0.true) c.copy_of.ensures

pub returns : goal.returns
returns c =
    IfOk-weaker c.joined.result _ _
    (λ bytes is.
    is
    ∙ ap (λ (around : List ℕ). around ++ 46 ∷ c.args.name.now) (c.as_slice.ensures ∙ c.in_ok-around.ensures)
    ∙ inner_spelled c.args.namespaces.now c.args.name.now c.are_namespaces.ensures c.args.space c.if-space-eq0.false c.requires)
    c.joined.ensures
