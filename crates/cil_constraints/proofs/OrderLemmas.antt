-- Constraints that tie are one.
use Rattle.std.specs.Prelude.{if◌then◌else◌, nat_lt, drop}
use Rattle.std.specs.Cmp.Lexicographic.{slice_cmp}
use Rattle.std.specs.declared.cmp.Ordering.{Ordering}
use Rattle.std.specs.declared.cmp.Ordering.TheVariants.{Less, Equal, Greater}
use Rattle.std.proofs.Common.{◌≡◌, ℕ, ◌==◌, List, [], ◌∷◌, get_or, refl, sym, ◌∙◌, ap}
use Rattle.std.proofs.lemmas.Map.Lookups.{exact_bytes}
use Rattle.cil_base.specs.Paths.{both_equal, same_by}
use Rattle.cil_constraints.specs.declared.mask.Constraint.{Constraint}
use Rattle.cil_constraints.specs.declared.step.Part.{Part}
use Rattle.cil_constraints.specs.declared.step.Part.TheVariants as parts
use Rattle.cil_constraints.specs.declared.step.Side.{Side}
use Rattle.cil_constraints.specs.declared.step.Side.TheVariants as sides
use Rattle.cil_constraints.specs.declared.step.Equality.{Equality}
use Rattle.cil_constraints.specs.declared.step.Equality.TheVariants as equalities
use Rattle.cil_constraints.specs.declared.step.LevelPair.{LevelPair}
use Rattle.cil_constraints.specs.declared.step.LevelPair.TheVariants as pairs
use Rattle.cil_constraints.specs.declared.step.Relation.{Relation}
use Rattle.cil_constraints.specs.declared.step.Relation.TheVariants as relations
use Rattle.cil_constraints.specs.declared.step.Step.{Step}
use Rattle.cil_constraints.specs.declared.step.Step.TheVariants as steps
use Rattle.cil_constraints.specs.Order.{constraint_cmp, equality_byte, relation_byte, step_cmp, step_fields}

-- ---- what bytes stand for

abbrev part_at : ℕ → Part
part_at v = if nat_lt v 2 then parts.User else (if nat_lt v 4 then parts.Role else parts.Kind)

abbrev side_at : ℕ → Side
side_at v = if (v == 1) then sides.Target else (if (v == 3) then sides.Target else (if (v == 5) then sides.Target else sides.Source))

abbrev equality_at : ℕ → Equality
equality_at op = if (op == 0) then equalities.Equal else equalities.Different

abbrev relation_at : ℕ → Relation
relation_at op =
    if (op == 0) then relations.Equal else (if (op == 1) then relations.Different else (if (op == 2) then relations.Dominates else
    (if (op == 3) then relations.DominatedBy else relations.Incomparable)))

abbrev pair_at : ℕ → ℕ → LevelPair
pair_at v w =
    if (v == 6) then (if (w == 7) then pairs.Lows else (if (w == 8) then pairs.SourceRange else pairs.LowHigh)) else
    (if (v == 7) then pairs.TargetRange else (if (w == 7) then pairs.HighLow else pairs.Highs))

abbrev tested : ℕ → ℕ → ℕ → Step
tested v w op = if nat_lt v 6 then steps.Compared (part_at v) (equality_at op) else steps.Ranked (pair_at v w) (relation_at op)

abbrev step_at : List ℕ → Step
step_at fields =
    if (get_or fields 0 0 == 2) then steps.Not else (if (get_or fields 0 0 == 3) then steps.And else (if (get_or fields 0 0 == 4) then steps.Or else
    (if (get_or fields 0 0 == 16) then tested (get_or fields 1 0) (get_or fields 2 0) (get_or fields 3 0) else
    steps.Inside (part_at (get_or fields 1 0)) (side_at (get_or fields 1 0)) (equality_at (get_or fields 2 0)) (drop 4 fields))))

equality_is : (e : Equality) → equality_at (equality_byte e) ≡ e
equality_is equalities.Equal = refl
equality_is equalities.Different = refl

relation_is : (r : Relation) → relation_at (relation_byte r) ≡ r
relation_is relations.Equal = refl
relation_is relations.Different = refl
relation_is relations.Dominates = refl
relation_is relations.DominatedBy = refl
relation_is relations.Incomparable = refl

-- a step is known by its fields
step_is : (s : Step) → step_at (step_fields s) ≡ s
step_is steps.Not = refl
step_is steps.And = refl
step_is steps.Or = refl
step_is (steps.Compared parts.User e) = ap (steps.Compared parts.User) (equality_is e)
step_is (steps.Compared parts.Role e) = ap (steps.Compared parts.Role) (equality_is e)
step_is (steps.Compared parts.Kind e) = ap (steps.Compared parts.Kind) (equality_is e)
step_is (steps.Ranked pairs.Lows r) = ap (steps.Ranked pairs.Lows) (relation_is r)
step_is (steps.Ranked pairs.SourceRange r) = ap (steps.Ranked pairs.SourceRange) (relation_is r)
step_is (steps.Ranked pairs.LowHigh r) = ap (steps.Ranked pairs.LowHigh) (relation_is r)
step_is (steps.Ranked pairs.TargetRange r) = ap (steps.Ranked pairs.TargetRange) (relation_is r)
step_is (steps.Ranked pairs.HighLow r) = ap (steps.Ranked pairs.HighLow) (relation_is r)
step_is (steps.Ranked pairs.Highs r) = ap (steps.Ranked pairs.Highs) (relation_is r)
step_is (steps.Inside parts.User sides.Source e set) = ap (λ z. steps.Inside parts.User sides.Source z set) (equality_is e)
step_is (steps.Inside parts.User sides.Target e set) = ap (λ z. steps.Inside parts.User sides.Target z set) (equality_is e)
step_is (steps.Inside parts.Role sides.Source e set) = ap (λ z. steps.Inside parts.Role sides.Source z set) (equality_is e)
step_is (steps.Inside parts.Role sides.Target e set) = ap (λ z. steps.Inside parts.Role sides.Target z set) (equality_is e)
step_is (steps.Inside parts.Kind sides.Source e set) = ap (λ z. steps.Inside parts.Kind sides.Source z set) (equality_is e)
step_is (steps.Inside parts.Kind sides.Target e set) = ap (λ z. steps.Inside parts.Kind sides.Target z set) (equality_is e)

one_step : (s u : Step) → step_cmp s u ≡ Equal → s ≡ u
one_step s u e = sym (step_is s) ∙ ap step_at (exact_bytes (step_fields s) (step_fields u) e) ∙ step_is u

-- lists of items that tie one by one are one
module _ {X : Type 0} (order : X → X → Ordering) (exact : (x y : X) → order x y ≡ Equal → x ≡ y) where
  one_slice : (xs ys : List X) → slice_cmp order xs ys ≡ Equal → xs ≡ ys
  one_slice [] [] e = refl
  one_slice [] (y ∷ ys) e = absurd (let f : Less ≡ Equal = e in cc)
  one_slice (x ∷ xs) [] e = absurd (let f : Greater ≡ Equal = e in cc)
  one_slice (x ∷ xs) (y ∷ ys) e = let both = both_equal (order x y) (slice_cmp order xs ys) e in λ i. exact x y both.0 i ∷ one_slice xs ys both.1 i

same_constraint : (a b : Constraint) → a.class ≡ b.class → a.mask ≡ b.mask → a.expr ≡ b.expr → a ≡ b
same_constraint a b c m s = λ i. record { class = c i; mask = m i; expr = s i }

-- two constraints that tie are one
pub one_constraint : (a b : Constraint) → constraint_cmp a b ≡ Equal → a ≡ b
one_constraint a b e =
    let steps_ = both_equal _ _ e in
    let mask = both_equal _ _ steps_.0 in
    same_constraint a b (same_by _ _ mask.0) (same_by _ _ mask.1) (one_slice step_cmp one_step a.expr b.expr steps_.1)
