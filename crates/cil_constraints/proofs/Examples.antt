-- Constraints, computed on numbers.
use Rattle.std.specs.Prelude.{◌≡◌, [], ◌∷◌, refl}
use Rattle.cil_constraints.specs.declared.step.Part.TheVariants as parts
use Rattle.cil_constraints.specs.declared.step.Side.TheVariants as sides
use Rattle.cil_constraints.specs.declared.step.Equality.TheVariants as equalities
use Rattle.cil_constraints.specs.declared.step.LevelPair.TheVariants as pairs
use Rattle.cil_constraints.specs.declared.step.Relation.TheVariants as relations
use Rattle.cil_constraints.specs.declared.step.Step.TheVariants as steps
use Rattle.cil_constraints.specs.Expressions.{Negated, Either, Compared, Ranked, Inside, trees}
use Rattle.cil_constraints.specs.Order.{step_fields}

-- steps that are no expression: an operand too few, and two expressions
row_broken : (trees (steps.And ∷ steps.Compared parts.User equalities.Equal ∷ []) ≡ [])
    × (trees (steps.Compared parts.User equalities.Equal ∷ steps.Compared parts.Role equalities.Equal ∷ [])
    ≡ Compared parts.User equalities.Equal ∷ Compared parts.Role equalities.Equal ∷ [])
unfolding trees
row_broken = (refl, refl)

-- (not (or (dom h1 h2) (neq t1 x))), where x has the types 3 and 5
row_read : trees (steps.Not ∷ steps.Or ∷ steps.Ranked pairs.Highs relations.Dominates ∷ steps.Inside parts.Kind sides.Source equalities.Different (3 ∷ 5 ∷ []) ∷ [])
    ≡ Negated (Either (Ranked pairs.Highs relations.Dominates) (Inside parts.Kind sides.Source equalities.Different (3 ∷ 5 ∷ []))) ∷ []
unfolding trees
row_read = refl

-- the bytes of (eq r1 r2), of (dom h1 l2) and of (neq t2 x)
row_fields : (step_fields (steps.Compared parts.Role equalities.Equal) ≡ 16 ∷ 2 ∷ 3 ∷ 0 ∷ [])
    × (step_fields (steps.Ranked pairs.HighLow relations.Dominates) ≡ 16 ∷ 8 ∷ 7 ∷ 2 ∷ [])
    × (step_fields (steps.Inside parts.Kind sides.Target equalities.Different (3 ∷ 5 ∷ [])) ≡ 17 ∷ 5 ∷ 1 ∷ 2 ∷ 3 ∷ 5 ∷ [])
row_fields = (refl, refl, refl)
