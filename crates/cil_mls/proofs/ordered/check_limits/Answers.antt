use Rattle.std.specs.Prelude.{codes}
use Rattle.std.proofs.Common.{◌≤◌, ℕ, List, length, subst, sym}
use Rattle.cil_base.specs.Lists.{Lists, text_cmp}
use Rattle.cil_faults.specs.Refusal.{Answers}
use Rattle.cil_faults.proofs.BothLemmas.{answers_both}
use Rattle.cil_syntax.specs.declared.kind.Kind.TheVariants as kinds
use Rattle.cil_attrs.specs.SetFaults.{IsItemName}
use Rattle.cil_mls.specs.OrderFaults.{most_categories, most_sensitivities}
use Rattle.cil_mls.specs.PolicyFaults.{IsOver}
use Rattle.cil_mls.proofs.ordered.check_limits.Goals as goal

pub returns : goal.returns
returns c xs s sensitivities categories =
    let few_sensitivities = subst (λ (l : List (List ℕ)). Answers (λ done. length l ≤ most_sensitivities) (IsOver xs s kinds.Sensitivity most_sensitivities (codes "sensitivities")) c.check_limit-few_sensitivities.result)
    c.as_slice.ensures.value (c.check_limit-few_sensitivities.ensures xs s kinds.Sensitivity (subst (Lists text_cmp (IsItemName xs s kinds.Sensitivity)) (sym c.as_slice.ensures.value) sensitivities)) in
    let few_categories = subst (λ (l : List (List ℕ)). Answers (λ done. length l ≤ most_categories) (IsOver xs s kinds.Category most_categories (codes "categories")) c.check_limit-few_categories.result)
    c.as_slice-2.ensures.value (c.check_limit-few_categories.ensures xs s kinds.Category (subst (Lists text_cmp (IsItemName xs s kinds.Category)) (sym c.as_slice-2.ensures.value) categories)) in
    answers_both _ _ _ _ _ _ _ c.together.ensures few_sensitivities few_categories
