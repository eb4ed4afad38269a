-- What tests hand in is what is wanted.
use Rattle.std.specs.Prelude.{◌≡◌, ℕ, List, [], ◌∷◌, ◌++◌, codes, refl}
use Rattle.std.specs.List.Sorted.{IsStrictlySortedBy}
use Rattle.std.proofs.Common.{sym, ◌∙◌, ap, subst, arith}
use Rattle.cil_base.specs.Lists.{text_cmp}
use Rattle.cil_constraints.specs.declared.step.Part.{Part}
use Rattle.cil_constraints.specs.declared.step.Equality.{Equality}
use Rattle.cil_constraints.specs.declared.step.Step.{Step}
use Rattle.cil_constraints.specs.declared.step.Step.TheVariants as steps
use Rattle.cil_constraints.specs.Expressions.{Compared, IsExpression}

-- one comparison is an expression
pub one_comparison : (part : Part) (equality : Equality) (old new : List Step) → old ≡ [] → new ≡ old ++ steps.Compared part equality ∷ [] → IsExpression new
one_comparison part equality old new none push = record {
  tree = Compared part equality;
  steps = push ∙ ap (λ l. l ++ steps.Compared part equality ∷ []) none;
  shallow = omega arith;
}

-- the names rise
pub names_rise : (names : List (List ℕ)) → names ≡ codes "dyntransition" ∷ codes "fork" ∷ codes "transition" ∷ [] → IsStrictlySortedBy text_cmp names
unfolding IsStrictlySortedBy
names_rise names are = subst (IsStrictlySortedBy text_cmp) (sym are) ((refl, (refl, tt)), ((refl, tt), (tt, tt)))
