-- A constraint whose numbers are in range has a layout.
use Rattle.std.proofs.Common.{◌≡◌, ℕ, zero, suc, ◌<◌, ◌≤◌, Bool, true, false, ltb, cond, List, refl, sym, ap, ◌∙◌, arith}
use Rattle.std.specs.List.{AllByRecursion}
use Rattle.std.proofs.lemmas.Bool.{lt-ltb}
use Rattle.cil_format.specs.Fields.{set}
use Rattle.cil_constraints.specs.declared.mask.Constraint.{Constraint}
use Rattle.cil_constraints.specs.declared.step.Part.{Part}
use Rattle.cil_constraints.specs.declared.step.Part.TheVariants as parts
use Rattle.cil_constraints.specs.declared.step.Side.{Side}
use Rattle.cil_constraints.specs.declared.step.Side.TheVariants as sides
use Rattle.cil_constraints.specs.declared.step.Equality.{Equality}
use Rattle.cil_constraints.specs.declared.step.Equality.TheVariants as equalities
use Rattle.cil_constraints.specs.declared.step.LevelPair.{LevelPair}
use Rattle.cil_constraints.specs.declared.step.LevelPair.TheVariants as pairs
use Rattle.cil_constraints.specs.declared.step.Relation.{Relation}
use Rattle.cil_constraints.specs.declared.step.Relation.TheVariants as relations
use Rattle.cil_constraints.specs.Expressions.{Expression, Negated, Both, Either, Compared, Ranked, Inside, levels_of, steps_of}
use Rattle.cil_constraints.specs.Order.{equality_byte, relation_byte}
use Rattle.cil_constraint_bytes.specs.Layout.{Limits, constraint, equality_by, member, pair, relation_by, tree, tree_in}
use Rattle.cil_constraint_bytes.specs.Within.{IsInRange, IsWithin, count_of}
use Rattle.cil_constraint_bytes.proofs.Exact.{tree_back}
use Rattle.cil_constraint_bytes.proofs.Lists.{front_all, rest_all}

abbrev Tree : Type 0
Tree = Expression (List ℕ)

-- ---- leaves

-- a variable of a part is one with levels and without
part_variable : (are_on : Bool) (v : ℕ) → ltb v 6 ≡ true → ltb v (cond are_on 10 6) ≡ true
part_variable true v lt = grind (arith, lt)
part_variable false v lt = lt

compared_fits : (limits : Limits) (part : Part) (equality : Equality) → (pair limits).Fits (Compared part equality)
compared_fits limits parts.User equalities.Equal =
    (((omega arith, part_variable limits.are_on 0 refl), ((omega arith, refl), (omega arith, refl))), refl)
compared_fits limits parts.User equalities.Different =
    (((omega arith, part_variable limits.are_on 0 refl), ((omega arith, refl), (omega arith, refl))), refl)
compared_fits limits parts.Role equalities.Equal =
    (((omega arith, part_variable limits.are_on 2 refl), ((omega arith, refl), (omega arith, refl))), refl)
compared_fits limits parts.Role equalities.Different =
    (((omega arith, part_variable limits.are_on 2 refl), ((omega arith, refl), (omega arith, refl))), refl)
compared_fits limits parts.Kind equalities.Equal =
    (((omega arith, part_variable limits.are_on 4 refl), ((omega arith, refl), (omega arith, refl))), refl)
compared_fits limits parts.Kind equalities.Different =
    (((omega arith, part_variable limits.are_on 4 refl), ((omega arith, refl), (omega arith, refl))), refl)

relation_small : (relation : Relation) → (relation_byte relation < 256) × (ltb (relation_byte relation) 5 ≡ true)
relation_small relations.Equal = (omega arith, refl)
relation_small relations.Different = (omega arith, refl)
relation_small relations.Dominates = (omega arith, refl)
relation_small relations.DominatedBy = (omega arith, refl)
relation_small relations.Incomparable = (omega arith, refl)

abbrev ranked : LevelPair → Relation → Tree
ranked p relation = Ranked p relation

relation_again : (p : LevelPair) (relation : Relation) → ranked p (relation_by (relation_byte relation)) ≡ ranked p relation
relation_again p relations.Equal = refl
relation_again p relations.Different = refl
relation_again p relations.Dominates = refl
relation_again p relations.DominatedBy = refl
relation_again p relations.Incomparable = refl

ranked_fits : (limits : Limits) (p : LevelPair) (relation : Relation) → limits.are_on ≡ true → (pair limits).Fits (Ranked p relation)
ranked_fits limits pairs.Lows relation on =
    (((omega arith, rw on refl), ((omega arith, refl), relation_small relation)), relation_again pairs.Lows relation)
ranked_fits limits pairs.SourceRange relation on =
    (((omega arith, rw on refl), ((omega arith, refl), relation_small relation)), relation_again pairs.SourceRange relation)
ranked_fits limits pairs.LowHigh relation on =
    (((omega arith, rw on refl), ((omega arith, refl), relation_small relation)), relation_again pairs.LowHigh relation)
ranked_fits limits pairs.TargetRange relation on =
    (((omega arith, rw on refl), ((omega arith, refl), relation_small relation)), relation_again pairs.TargetRange relation)
ranked_fits limits pairs.HighLow relation on =
    (((omega arith, rw on refl), ((omega arith, refl), relation_small relation)), relation_again pairs.HighLow relation)
ranked_fits limits pairs.Highs relation on =
    (((omega arith, rw on refl), ((omega arith, refl), relation_small relation)), relation_again pairs.Highs relation)

equality_small : (equality : Equality) → (equality_byte equality < 256) × (ltb (equality_byte equality) 2 ≡ true)
equality_small equalities.Equal = (omega arith, refl)
equality_small equalities.Different = (omega arith, refl)

equality_again : (part : Part) (side : Side) (equality : Equality) (numbers : List ℕ)
    → Inside part side (equality_by (equality_byte equality)) numbers ≡ Inside part side equality numbers
equality_again part side equalities.Equal numbers = refl
equality_again part side equalities.Different numbers = refl

inside_fits : (limits : Limits) (part : Part) (side : Side) (equality : Equality) (numbers : List ℕ) → (set (count_of limits part)).Fits numbers
    → (member limits).Fits (Inside part side equality numbers)
inside_fits limits parts.User sides.Source equality numbers fits =
    (((omega arith, refl), (equality_small equality, fits)), equality_again parts.User sides.Source equality numbers)
inside_fits limits parts.User sides.Target equality numbers fits =
    (((omega arith, refl), (equality_small equality, fits)), equality_again parts.User sides.Target equality numbers)
inside_fits limits parts.Role sides.Source equality numbers fits =
    (((omega arith, refl), (equality_small equality, fits)), equality_again parts.Role sides.Source equality numbers)
inside_fits limits parts.Role sides.Target equality numbers fits =
    (((omega arith, refl), (equality_small equality, fits)), equality_again parts.Role sides.Target equality numbers)
inside_fits limits parts.Kind sides.Source equality numbers fits =
    (((omega arith, refl), (equality_small equality, fits)), equality_again parts.Kind sides.Source equality numbers)
inside_fits limits parts.Kind sides.Target equality numbers fits =
    (((omega arith, refl), (equality_small equality, fits)), equality_again parts.Kind sides.Target equality numbers)

-- ---- expressions

tree_fits : (limits : Limits) (levels : ℕ) (e : Tree) → levels_of e ≤ levels → AllByRecursion (IsWithin limits) (steps_of e) → (tree limits levels).Fits e
unfolding tree
tree_fits limits zero (Negated a) le all = absurd (omega (arith, le))
tree_fits limits zero (Both a b) le all = absurd (omega (arith, le))
tree_fits limits zero (Either a b) le all = absurd (omega (arith, le))
tree_fits limits zero (Compared part equality) le all = absurd (omega (arith, le))
tree_fits limits zero (Ranked p relation) le all = absurd (omega (arith, le))
tree_fits limits zero (Inside part side equality numbers) le all = absurd (omega (arith, le))
tree_fits limits (suc levels) (Negated a) le all = (omega arith, (tree_fits limits levels a (omega (arith, le)) all.1, refl))
tree_fits limits (suc levels) (Both a b) le all =
    let first = tree_fits limits levels a (omega (arith, le)) (front_all (IsWithin limits) (steps_of a) (steps_of b) all.1) in
    let second = tree_fits limits levels b (omega (arith, le)) (rest_all (IsWithin limits) (steps_of a) (steps_of b) all.1) in
    (omega arith, ((first, second), refl))
tree_fits limits (suc levels) (Either a b) le all =
    let first = tree_fits limits levels a (omega (arith, le)) (front_all (IsWithin limits) (steps_of a) (steps_of b) all.1) in
    let second = tree_fits limits levels b (omega (arith, le)) (rest_all (IsWithin limits) (steps_of a) (steps_of b) all.1) in
    (omega arith, ((first, second), refl))
tree_fits limits (suc levels) (Compared part equality) le all = (omega arith, compared_fits limits part equality)
tree_fits limits (suc levels) (Ranked p relation) le all = (omega arith, ranked_fits limits p relation all.0)
tree_fits limits (suc levels) (Inside part side equality numbers) le all = (omega arith, inside_fits limits part side equality numbers all.0)

-- ---- constraints

pub constraint_fits : (limits : Limits) (c : Constraint) → IsInRange limits c → (constraint limits).Fits c
constraint_fits limits c is =
    let ss = c.expr in
    let all : AllByRecursion (IsWithin limits) (steps_of is.one.tree) = rw is.one.steps at is.steps in
    let fits = tree_fits limits 128 is.one.tree is.one.shallow all in
    let back : tree_in ss ≡ is.one.tree = ap tree_in is.one.steps ∙ tree_back is.one.tree in
    let fits_back : (tree limits 128).Fits (tree_in ss) = rw back fits in
    let steps_back : steps_of (tree_in ss) ≡ ss = ap steps_of back ∙ sym is.one.steps in
    ((((is.number, lt-ltb _ _ is.class), ((is.bits, lt-ltb _ _ is.mask), (fits_back, steps_back))), refl), lt-ltb _ _ is.some)
