-- When a constraint is true of a source and a target, by the numbers of tables. CIL Reference Guide, "Constraint Statements"; The SELinux
-- Notebook, "Constraint Statements".
use Rattle.std.specs.Prelude.{ℕ, Bool, false, not, ◌&&◌, ◌||◌, ◌==◌, List, [], ◌∷◌}
use Rattle.cil_constraints.specs.declared.expr.Context.{Context}
use Rattle.cil_base.specs.Among.{among}
use Rattle.cil_mls.specs.declared.level.Level.{Level}
use Rattle.cil_mls.specs.Dominance.{dominates}
use Rattle.cil_constraints.specs.declared.step.Part.{Part}
use Rattle.cil_constraints.specs.declared.step.Part.TheVariants as parts
use Rattle.cil_constraints.specs.declared.step.Side.{Side}
use Rattle.cil_constraints.specs.declared.step.Side.TheVariants as sides
use Rattle.cil_constraints.specs.declared.step.Equality.{Equality}
use Rattle.cil_constraints.specs.declared.step.Equality.TheVariants as equalities
use Rattle.cil_constraints.specs.declared.step.LevelPair.{LevelPair}
use Rattle.cil_constraints.specs.declared.step.LevelPair.TheVariants as pairs
use Rattle.cil_constraints.specs.declared.step.Relation.{Relation}
use Rattle.cil_constraints.specs.declared.step.Relation.TheVariants as relations
use Rattle.cil_constraints.specs.declared.step.Step.{Step}
use Rattle.cil_constraints.specs.Expressions.{Expression, Negated, Both, Either, Compared, Ranked, Inside, trees}

-- `eq` asks for the test, `neq` for its opposite
abbrev pub as_asked : Equality → Bool → Bool
as_asked equalities.Equal test = test
as_asked equalities.Different test = not test

-- how a level is to another
abbrev pub related : Relation → Level → Level → Bool
related relations.Equal x y = dominates x y && dominates y x
related relations.Different x y = not (dominates x y && dominates y x)
related relations.Dominates x y = dominates x y
related relations.DominatedBy x y = dominates y x
related relations.Incomparable x y = not (dominates x y) && not (dominates y x)

-- the first of two levels that are compared, and the second
abbrev pub first_of : {L : Type 0} → LevelPair → (l1 h1 l2 h2 : L) → L
first_of pairs.Lows l1 h1 l2 h2 = l1
first_of pairs.SourceRange l1 h1 l2 h2 = l1
first_of pairs.LowHigh l1 h1 l2 h2 = l1
first_of pairs.TargetRange l1 h1 l2 h2 = l2
first_of pairs.HighLow l1 h1 l2 h2 = h1
first_of pairs.Highs l1 h1 l2 h2 = h1

abbrev pub second_of : {L : Type 0} → LevelPair → (l1 h1 l2 h2 : L) → L
second_of pairs.Lows l1 h1 l2 h2 = l2
second_of pairs.SourceRange l1 h1 l2 h2 = h1
second_of pairs.LowHigh l1 h1 l2 h2 = h2
second_of pairs.TargetRange l1 h1 l2 h2 = h2
second_of pairs.HighLow l1 h1 l2 h2 = l2
second_of pairs.Highs l1 h1 l2 h2 = h2

-- the two levels are so
abbrev pub ranked : LevelPair → Relation → (l1 h1 l2 h2 : Level) → Bool
ranked pair relation l1 h1 l2 h2 = related relation (first_of pair l1 h1 l2 h2) (second_of pair l1 h1 l2 h2)

-- ---- by numbers

abbrev pub number_of : Part → Context → ℕ
number_of parts.User c = c.user
number_of parts.Role c = c.role
number_of parts.Kind c = c.kind

abbrev pub side_of : {X : Type 0} → Side → X → X → X
side_of sides.Source a b = a
side_of sides.Target a b = b

-- the expression is true of a source and a target
abbrev pub truth : Context → Context → Expression (List ℕ) → Bool
truth a b (Negated e) = not (truth a b e)
truth a b (Both e f) = truth a b e && truth a b f
truth a b (Either e f) = truth a b e || truth a b f
truth a b (Compared part equality) = as_asked equality (number_of part a == number_of part b)
truth a b (Ranked pair relation) = ranked pair relation a.low a.high b.low b.high
truth a b (Inside part side equality set) = as_asked equality (among set (number_of part (side_of side a b)))

-- of the one expression that there is
abbrev pub truth_of_one : Context → Context → List (Expression (List ℕ)) → Bool
truth_of_one a b [] = false
truth_of_one a b (e ∷ []) = truth a b e
truth_of_one a b (e ∷ f ∷ es) = false

-- the steps are those of an expression that is true of a source and a target
abbrev pub is_true : Context → Context → List Step → Bool
is_true a b ss = truth_of_one a b (trees ss)
