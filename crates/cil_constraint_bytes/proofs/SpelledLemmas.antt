-- What is spelled as a tree is what is written step by step.
use Rattle.std.proofs.Common.{◌≡◌, ℕ, zero, suc, ◌%◌, ◌<◌, ◌≤◌, List, [], ◌∷◌, ◌++◌, refl, sym, ap, ◌∙◌, append_assoc, arith}
use Rattle.std.specs.Int.{w8, w16, w32, to_be_bytes}
use Rattle.std.specs.List.{flat_map}
use Rattle.std.proofs.lemmas.List.{append-nil}
use Rattle.std.proofs.lemmas.List.Concat.{flat_map-cons}
use Rattle.std.proofs.lemmas.Grind.{flat_map-append}
use Rattle.cil_constraints.specs.declared.mask.Constraint.{Constraint}
use Rattle.cil_constraints.specs.declared.step.Part.{Part}
use Rattle.cil_constraints.specs.declared.step.Part.TheVariants as parts
use Rattle.cil_constraints.specs.declared.step.Side.{Side}
use Rattle.cil_constraints.specs.declared.step.Side.TheVariants as sides
use Rattle.cil_constraints.specs.declared.step.Equality.{Equality}
use Rattle.cil_constraints.specs.declared.step.Equality.TheVariants as equalities
use Rattle.cil_constraints.specs.declared.step.LevelPair.{LevelPair}
use Rattle.cil_constraints.specs.declared.step.LevelPair.TheVariants as pairs
use Rattle.cil_constraints.specs.declared.step.Relation.{Relation}
use Rattle.cil_constraints.specs.declared.step.Relation.TheVariants as relations
use Rattle.cil_constraints.specs.declared.step.Step.{Step}
use Rattle.cil_constraints.specs.declared.step.Step.TheVariants as steps
use Rattle.cil_constraints.specs.Expressions.{Expression, Negated, Both, Either, Compared, Ranked, Inside, IsExpression, levels_of, steps_of}
use Rattle.cil_constraints.specs.Order.{variable_byte, first_byte, second_byte, equality_byte, relation_byte}
use Rattle.cil_constraint_bytes.specs.Layout.{Limits, constraint, tree, tree_in}
use Rattle.cil_constraint_bytes.specs.Spelled.{set_bytes, step_bytes}
use Rattle.cil_constraint_bytes.proofs.Exact.{tree_back}

abbrev Tree : Type 0
Tree = Expression (List ℕ)

-- ---- bytes are small

variable_small : (part : Part) (side : Side) → variable_byte part side < 256
variable_small parts.User sides.Source = omega arith
variable_small parts.User sides.Target = omega arith
variable_small parts.Role sides.Source = omega arith
variable_small parts.Role sides.Target = omega arith
variable_small parts.Kind sides.Source = omega arith
variable_small parts.Kind sides.Target = omega arith

first_small : (pair : LevelPair) → first_byte pair < 256
first_small pairs.Lows = omega arith
first_small pairs.SourceRange = omega arith
first_small pairs.LowHigh = omega arith
first_small pairs.TargetRange = omega arith
first_small pairs.HighLow = omega arith
first_small pairs.Highs = omega arith

second_small : (pair : LevelPair) → second_byte pair < 256
second_small pairs.Lows = omega arith
second_small pairs.SourceRange = omega arith
second_small pairs.LowHigh = omega arith
second_small pairs.TargetRange = omega arith
second_small pairs.HighLow = omega arith
second_small pairs.Highs = omega arith

equality_small : (equality : Equality) → equality_byte equality < 256
equality_small equalities.Equal = omega arith
equality_small equalities.Different = omega arith

relation_small : (relation : Relation) → relation_byte relation < 256
relation_small relations.Equal = omega arith
relation_small relations.Different = omega arith
relation_small relations.Dominates = omega arith
relation_small relations.DominatedBy = omega arith
relation_small relations.Incomparable = omega arith

one_byte : (n : ℕ) → n < 256 → n % 256 ≡ n
one_byte n lt = omega (arith, lt)

two_bytes : (a b : ℕ) (rest : List ℕ) → a < 256 → b < 256 → to_be_bytes w8 a ++ (to_be_bytes w8 b ++ rest) ≡ a ∷ b ∷ rest
two_bytes a b rest p q = rw (one_byte a p, one_byte b q) refl

three_bytes : (a b c : ℕ) → a < 256 → b < 256 → c < 256 → to_be_bytes w8 a ++ (to_be_bytes w8 b ++ to_be_bytes w8 c) ≡ a ∷ b ∷ c ∷ []
three_bytes a b c p q r = rw (one_byte a p, one_byte b q, one_byte c r) refl

-- ---- trees

abbrev bytes_of : List Step → List ℕ
bytes_of ss = flat_map step_bytes ss

one_step : (s : Step) → bytes_of (s ∷ []) ≡ step_bytes s
one_step s = flat_map-cons step_bytes s [] ∙ append-nil (step_bytes s)

-- an operator and its operands
two_steps : (s : Step) (a b : Tree) → bytes_of (s ∷ (steps_of a ++ steps_of b)) ≡ step_bytes s ++ (bytes_of (steps_of a) ++ bytes_of (steps_of b))
two_steps s a b =
    flat_map-cons step_bytes s (steps_of a ++ steps_of b)
    ∙ ap (λ (w : List ℕ). step_bytes s ++ w) (flat_map-append step_bytes (steps_of a) (steps_of b))

tree_spelled : (limits : Limits) (levels : ℕ) (e : Tree) → levels_of e ≤ levels → (tree limits levels).spell e ≡ bytes_of (steps_of e)
unfolding tree
tree_spelled limits zero (Negated a) le = absurd (omega (arith, le))
tree_spelled limits zero (Both a b) le = absurd (omega (arith, le))
tree_spelled limits zero (Either a b) le = absurd (omega (arith, le))
tree_spelled limits zero (Compared part equality) le = absurd (omega (arith, le))
tree_spelled limits zero (Ranked pair relation) le = absurd (omega (arith, le))
tree_spelled limits zero (Inside part side equality set) le = absurd (omega (arith, le))
tree_spelled limits (suc levels) (Negated a) le =
    ap (λ (w : List ℕ). 2 ∷ w) (tree_spelled limits levels a (omega (arith, le))) ∙ sym (flat_map-cons step_bytes steps.Not (steps_of a))
tree_spelled limits (suc levels) (Both a b) le =
    rw (tree_spelled limits levels a (omega (arith, le)), tree_spelled limits levels b (omega (arith, le))) (sym (two_steps steps.And a b))
tree_spelled limits (suc levels) (Either a b) le =
    rw (tree_spelled limits levels a (omega (arith, le)), tree_spelled limits levels b (omega (arith, le))) (sym (two_steps steps.Or a b))
tree_spelled limits (suc levels) (Compared part equality) le =
    ap (λ (w : List ℕ). 16 ∷ w)
    (three_bytes (variable_byte part sides.Source) (variable_byte part sides.Target) (equality_byte equality) (variable_small part sides.Source)
    (variable_small part sides.Target) (equality_small equality))
    ∙ sym (one_step (steps.Compared part equality))
tree_spelled limits (suc levels) (Ranked pair relation) le =
    ap (λ (w : List ℕ). 16 ∷ w)
    (three_bytes (first_byte pair) (second_byte pair) (relation_byte relation) (first_small pair) (second_small pair) (relation_small relation))
    ∙ sym (one_step (steps.Ranked pair relation))
tree_spelled limits (suc levels) (Inside part side equality set) le =
    ap (λ (w : List ℕ). 17 ∷ w)
    (two_bytes (variable_byte part side) (equality_byte equality) (set_bytes set) (variable_small part side) (equality_small equality))
    ∙ sym (one_step (steps.Inside part side equality set))

-- ---- constraints

pub steps_spelled : (limits : Limits) (ss : List Step) → IsExpression ss → (tree limits 128).spell (tree_in ss) ≡ bytes_of ss
steps_spelled limits ss is =
    let back : tree_in ss ≡ is.tree = ap tree_in is.steps ∙ tree_back is.tree in
    ap (tree limits 128).spell back ∙ tree_spelled limits 128 is.tree is.shallow ∙ ap bytes_of (sym is.steps)

-- class, mask and steps were put, one behind the other
pub all_put : (limits : Limits) (c : Constraint) (old one two new : List ℕ) → IsExpression c.expr
    → one ≡ old ++ to_be_bytes w16 c.class → two ≡ one ++ to_be_bytes w32 c.mask
    → new ≡ two ++ bytes_of c.expr → new ≡ old ++ (constraint limits).spell c
all_put limits c old one two new is a b e =
    e
    ∙ ap (λ (w : List ℕ). w ++ bytes_of c.expr)
    (b ∙ ap (λ (w : List ℕ). w ++ to_be_bytes w32 c.mask) a ∙ append_assoc old (to_be_bytes w16 c.class) (to_be_bytes w32 c.mask))
    ∙ append_assoc old (to_be_bytes w16 c.class ++ to_be_bytes w32 c.mask) (bytes_of c.expr)
    ∙ ap (λ (w : List ℕ). old ++ w)
    (append_assoc (to_be_bytes w16 c.class) (to_be_bytes w32 c.mask) (bytes_of c.expr)
    ∙ ap (λ (w : List ℕ). to_be_bytes w16 c.class ++ (to_be_bytes w32 c.mask ++ w)) (sym (steps_spelled limits c.expr is)))

-- the front of a test of a set was put, and then the set
pub inside_put : (part : Part) (side : Side) (equality : Equality) (set : List ℕ) (variable op : ℕ) (old mid new : List ℕ) → variable ≡ variable_byte part side
    → op ≡ equality_byte equality → mid ≡ old ++ (17 ∷ variable ∷ op ∷ []) → new ≡ mid ++ set_bytes set
    → new ≡ old ++ step_bytes (steps.Inside part side equality set)
inside_put part side equality set variable op old mid new v o a b =
    b ∙ ap (λ (w : List ℕ). w ++ set_bytes set) a ∙ append_assoc old (17 ∷ variable ∷ op ∷ []) (set_bytes set) ∙ rw (v, o) refl
