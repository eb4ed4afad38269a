-- The steps of an expression are read as that expression.
use Rattle.std.specs.Prelude.{ℕ, Bool, List, [], ◌∷◌, ◌++◌}
use Rattle.std.proofs.Common.{◌≡◌, refl, sym, ◌∙◌, ap}
use Rattle.std.proofs.lemmas.List.{append_assoc, append-nil}
use Rattle.cil_base.specs.Places.{cons_head}
use Rattle.cil_constraints.specs.declared.step.Step.{Step}
use Rattle.cil_constraints.specs.declared.expr.Context.{Context}
use Rattle.cil_constraints.specs.Expressions.{Expression, Negated, Both, Either, Compared, Ranked, Inside, IsExpression, steps_of, trees, negated, joined}
use Rattle.cil_constraints.specs.Truth.{is_true, truth, truth_of_one}
use Rattle.cil_constraints.proofs.Reading.{Reads}

-- the steps of an expression, and then others
pub trees_of : (e : Expression (List ℕ)) (ss : List Step) → trees (steps_of e ++ ss) ≡ e ∷ trees ss
unfolding trees
trees_of (Negated e) ss = ap negated (trees_of e ss)
trees_of (Both e f) ss =
    ap (λ w. joined Both (trees w)) (append_assoc (steps_of e) (steps_of f) ss) ∙ ap (joined Both) (trees_of e (steps_of f ++ ss) ∙ ap (λ w. e ∷ w) (trees_of f ss))
trees_of (Either e f) ss =
    ap (λ w. joined Either (trees w)) (append_assoc (steps_of e) (steps_of f) ss) ∙ ap (joined Either) (trees_of e (steps_of f ++ ss) ∙ ap (λ w. e ∷ w) (trees_of f ss))
trees_of (Compared part equality) ss = refl
trees_of (Ranked pair relation) ss = refl
trees_of (Inside part side equality set) ss = refl

-- the steps of an expression are read as that one
pub one_tree : (e : Expression (List ℕ)) → trees (steps_of e) ≡ e ∷ []
unfolding trees
one_tree e = ap trees (sym (append-nil (steps_of e))) ∙ trees_of e []

-- two expressions with the same steps are one
pub same_steps : (e f : Expression (List ℕ)) → steps_of e ≡ steps_of f → e ≡ f
same_steps e f same = cons_head _ _ _ _ (sym (one_tree e) ∙ ap trees same ∙ one_tree f)

module _ (a b : Context) where
  -- steps are true where their expression is
  pub true_steps : (e : Expression (List ℕ)) → is_true a b (steps_of e) ≡ truth a b e
  true_steps e = ap (truth_of_one a b) (one_tree e)

  pub of_one : (ss : List Step) → IsExpression ss → (value : Bool) (rest : List Step) → Reads a b ss value rest → value ≡ is_true a b ss
  of_one ss is value rest reads =
      (reads is.tree [] (ap trees is.steps ∙ one_tree is.tree)).0 ∙ sym (true_steps is.tree) ∙ ap (is_true a b) (sym is.steps)
