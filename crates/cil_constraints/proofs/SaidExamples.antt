-- What terms say, computed.
use Rattle.std.specs.Prelude.{◌≡◌, ℕ, [], ◌∷◌, Some, None, refl}
use Rattle.cil_syntax.specs.declared.term.Op.{Op}
use Rattle.cil_syntax.specs.declared.term.Op.TheVariants as ops
use Rattle.cil_faults.specs.Spots.{spot_at}
use Rattle.cil_syntax.specs.Terms.{Term, Leaf, Form, Terms, nil, cons}
use Rattle.cil_constraints.specs.declared.step.Part.TheVariants as parts
use Rattle.cil_constraints.specs.declared.step.Side.TheVariants as sides
use Rattle.cil_constraints.specs.declared.step.Equality.TheVariants as equalities
use Rattle.cil_constraints.specs.declared.step.LevelPair.TheVariants as pairs
use Rattle.cil_constraints.specs.declared.step.Relation.TheVariants as relations
use Rattle.cil_constraints.specs.Expressions.{Negated, Both, Either, Compared, Ranked, Inside}
use Rattle.cil_constraints.specs.Saying.{said, all_said}

abbrev form : Op → Terms ℕ → Term ℕ
form op ts = Form (spot_at 0 0) op ts

abbrev alone : Op → Term ℕ
alone op = form op nil

abbrev two : Term ℕ → Term ℕ → Terms ℕ
two a b = cons a (cons b nil)

-- (or (dom h1 h2) (neq t1 x)): the constraint of the policy of Debian that comes most often
row_mcs : said (form ops.Or (two (form ops.Dominates (two (alone ops.SourceHigh) (alone ops.TargetHigh))) (form ops.Unequal (two (alone ops.SourceType) (Leaf 7)))))
    ≡ Some (Either (Ranked pairs.Highs relations.Dominates) (Inside parts.Kind sides.Source equalities.Different (7 ∷ [])))
unfolding said all_said
row_mcs = refl

-- (not ((eq u1 u2))): a list of one leaves no trace
row_group : said (form ops.Not (cons (form ops.Group (cons (form ops.Equal (two (alone ops.SourceUser) (alone ops.TargetUser))) nil)) nil))
    ≡ Some (Negated (Compared parts.User equalities.Equal))
unfolding said all_said
row_group = refl

-- (and (eq r2 (x y)) (incomp l1 h1))
row_list : said (form ops.And (two (form ops.Equal (two (alone ops.TargetRole) (form ops.Union (cons (Leaf 1) (cons (Leaf 2) nil))))) (form ops.Incomparable (two (alone ops.SourceLow) (alone ops.SourceHigh)))))
    ≡ Some (Both (Inside parts.Role sides.Target equalities.Equal (1 ∷ 2 ∷ [])) (Ranked pairs.SourceRange relations.Incomparable))
unfolding said all_said
row_list = refl

-- (dom l1 l2), (domby l2 h2), (eq h1 l2), (neq l1 h2)
row_pairs : (said (form ops.Dominates (two (alone ops.SourceLow) (alone ops.TargetLow))) ≡ Some (Ranked pairs.Lows relations.Dominates))
    × (said (form ops.DominatedBy (two (alone ops.TargetLow) (alone ops.TargetHigh))) ≡ Some (Ranked pairs.TargetRange relations.DominatedBy))
    × (said (form ops.Equal (two (alone ops.SourceHigh) (alone ops.TargetLow))) ≡ Some (Ranked pairs.HighLow relations.Equal))
    × (said (form ops.Unequal (two (alone ops.SourceLow) (alone ops.TargetHigh))) ≡ Some (Ranked pairs.LowHigh relations.Different))
unfolding said all_said
row_pairs = (refl, refl, refl, refl)

-- (dom l2 l1) and (dom r1 x) say nothing
row_nothing : (said (form ops.Dominates (two (alone ops.TargetLow) (alone ops.SourceLow))) ≡ None)
    × (said (form ops.Dominates (two (alone ops.SourceRole) (Leaf 3))) ≡ None)
unfolding said all_said
row_nothing = (refl, refl)

-- an operand too many says nothing
row_many : (said (form ops.Not (two (form ops.Equal (two (alone ops.SourceUser) (alone ops.TargetUser))) (form ops.Equal (two (alone ops.SourceUser) (alone ops.TargetUser))))) ≡ None)
    × (said (form ops.Equal (cons (alone ops.SourceType) (two (Leaf 1) (Leaf 2)))) ≡ None)
unfolding said all_said
row_many = (refl, refl)
