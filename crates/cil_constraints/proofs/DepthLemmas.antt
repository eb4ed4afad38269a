-- How deep the expressions in some steps nest.
use Rattle.std.specs.Prelude.{IsTrue, MatchOption, None, Option, Some, ◌↔◌}
use Rattle.std.specs.Option.{is_some}
use Rattle.std.proofs.Common.{◌≡◌, ℕ, suc, ◌≤◌, ◌<◌, ◌-◌, max, Bool, List, [], ◌∷◌, drop, get_or, length, take, refl, sym, ◌∙◌, ap, subst, arith}
use Rattle.std.proofs.lemmas.Bool.{true≢false}
use Rattle.std.proofs.lemmas.List.{take_all}
use Rattle.cil_base.specs.Places.{cons_head, cons_tail}
use Rattle.cil_constraints.specs.declared.step.Step.{Step}
use Rattle.cil_constraints.specs.declared.step.Step.TheVariants as steps
use Rattle.cil_constraints.specs.declared.step.Part.{Part}
use Rattle.cil_constraints.specs.declared.step.Side.{Side}
use Rattle.cil_constraints.specs.declared.step.Equality.{Equality}
use Rattle.cil_constraints.specs.declared.step.LevelPair.{LevelPair}
use Rattle.cil_constraints.specs.declared.step.Relation.{Relation}
use Rattle.cil_constraints.specs.Depth.{AreBehind, AreDeeper, IsBehind, IsDeeper}
use Rattle.cil_constraints.specs.Expressions.{Expression, Negated, Both, Either, Compared, Ranked, Inside, levels_of, steps_of, trees}
use Rattle.cil_constraints.proofs.OneTree.{one_tree}
use Rattle.cil_constraints.proofs.Reading.{joined_is, negated_is}

-- an option whose cases are said of something else
pub match_ways : {X : Type 0} {A B : Type 0} {P Q : X → Type 0} → (r : Option X) → (A → B) → ((x : X) → P x → Q x) → MatchOption r A P → MatchOption r B Q
match_ways None f g h = f h
match_ways (Some x) f g h = g x h

some_level : (e : Expression (List ℕ)) → levels_of e ≤ 0 → ⊥
some_level (Negated e) le = omega (arith, le)
some_level (Both e f) le = omega (arith, le)
some_level (Either e f) le = omega (arith, le)
some_level (Compared part equality) le = omega (arith, le)
some_level (Ranked pair relation) le = omega (arith, le)
some_level (Inside part side equality set) le = omega (arith, le)

pub no_level : (ss : List Step) (most : ℕ) → most ≡ 0 → IsDeeper ss most
no_level ss most is = λ e es h le. some_level e (subst (λ k. levels_of e ≤ k) is le)

pub no_step : (ss : List Step) (most : ℕ) → length ss < 1 → IsDeeper ss most
unfolding trees
no_step [] most l = λ e es h le. absurd (let f : [] ≡ e ∷ es = h in cc)
no_step (s ∷ ss) most l = absurd (omega (arith, l))

-- steps that begin so
pub first_is : (ss : List Step) (d s : Step) → 1 ≤ length ss → get_or ss 0 d ≡ s → ss ≡ s ∷ take (length ss - 1) (drop 1 ss)
first_is [] d s l e = absurd (omega (arith, l))
first_is (x ∷ ss) d s l e = ap (λ w. w ∷ ss) e ∙ ap (λ w. s ∷ w) (sym (take_all (length (x ∷ ss) - 1) ss (omega arith)))

max_first : (a b k : ℕ) → max a b ≤ k → a ≤ k
max_first a b k le = omega (arith, le)

max_second : (a b k : ℕ) → max a b ≤ k → b ≤ k
max_second a b k le = omega (arith, le)

max_both : (a b k : ℕ) → a ≤ k → b ≤ k → max a b ≤ k
max_both a b k l m = omega (arith, l, m)

less_one : (a most : ℕ) → suc a ≤ most → a ≤ most - 1
less_one a most le = omega (arith, le)

one_more : (a most : ℕ) → (most ≡ 0 → ⊥) → a ≤ most - 1 → suc a ≤ most
one_more a most some le = omega (arith, some, le)

module _ (most : ℕ) (some : most ≡ 0 → ⊥) (ss : List Step) where
  not_deeper : IsDeeper ss (most - 1) → IsDeeper (steps.Not ∷ ss) most
  unfolding trees
  not_deeper deeper e es h le =
      let d = negated_is (trees ss) es e h in
      deeper d.0 es d.1 (less_one (levels_of d.0) most (subst (λ w. levels_of w ≤ most) (sym d.2) le))

  not_behind : (rest : List Step) → IsBehind ss (most - 1) rest → IsBehind (steps.Not ∷ ss) most rest
  unfolding trees
  not_behind rest behind e es h =
      let d = negated_is (trees ss) es e h in
      let r = behind d.0 es d.1 in
      (subst (λ w. levels_of w ≤ most) d.2 (one_more (levels_of d.0) most some r.0), r.1)

  and_deeper : AreDeeper ss (most - 1) → IsDeeper (steps.And ∷ ss) most
  unfolding trees
  and_deeper deeper e es h le =
      let d = joined_is Both (trees ss) es e h in
      let l = less_one (max (levels_of d.0) (levels_of d.1)) most (subst (λ w. levels_of w ≤ most) (sym d.3) le) in
      deeper d.0 d.1 es d.2 (max_first (levels_of d.0) (levels_of d.1) (most - 1) l) (max_second (levels_of d.0) (levels_of d.1) (most - 1) l)

  and_behind : (rest : List Step) → AreBehind ss (most - 1) rest → IsBehind (steps.And ∷ ss) most rest
  unfolding trees
  and_behind rest behind e es h =
      let d = joined_is Both (trees ss) es e h in
      let r = behind d.0 d.1 es d.2 in
      (subst (λ w. levels_of w ≤ most) d.3 (one_more (max (levels_of d.0) (levels_of d.1)) most some (max_both (levels_of d.0) (levels_of d.1) (most - 1) r.0 r.1)), r.2)

  or_deeper : AreDeeper ss (most - 1) → IsDeeper (steps.Or ∷ ss) most
  unfolding trees
  or_deeper deeper e es h le =
      let d = joined_is Either (trees ss) es e h in
      let l = less_one (max (levels_of d.0) (levels_of d.1)) most (subst (λ w. levels_of w ≤ most) (sym d.3) le) in
      deeper d.0 d.1 es d.2 (max_first (levels_of d.0) (levels_of d.1) (most - 1) l) (max_second (levels_of d.0) (levels_of d.1) (most - 1) l)

  or_behind : (rest : List Step) → AreBehind ss (most - 1) rest → IsBehind (steps.Or ∷ ss) most rest
  unfolding trees
  or_behind rest behind e es h =
      let d = joined_is Either (trees ss) es e h in
      let r = behind d.0 d.1 es d.2 in
      (subst (λ w. levels_of w ≤ most) d.3 (one_more (max (levels_of d.0) (levels_of d.1)) most some (max_both (levels_of d.0) (levels_of d.1) (most - 1) r.0 r.1)), r.2)

  test_behind : (leaf e : Expression (List ℕ)) (es : List (Expression (List ℕ))) → levels_of leaf ≡ 1 → leaf ∷ trees ss ≡ e ∷ es → (levels_of e ≤ most) × (trees ss ≡ es)
  test_behind leaf e es one both = (subst (λ w. levels_of w ≤ most) (cons_head _ _ _ _ both) (omega (arith, one, some)), cons_tail _ _ _ _ both)

  parts_behind : (part : Part) (equality : Equality) → IsBehind (steps.Compared part equality ∷ ss) most ss
  unfolding trees
  parts_behind part equality e es h = test_behind (Compared part equality) e es refl h

  levels_behind : (pair : LevelPair) (relation : Relation) → IsBehind (steps.Ranked pair relation ∷ ss) most ss
  unfolding trees
  levels_behind pair relation e es h = test_behind (Ranked pair relation) e es refl h

  inside_behind : (part : Part) (side : Side) (equality : Equality) (set : List ℕ) → IsBehind (steps.Inside part side equality set ∷ ss) most ss
  unfolding trees
  inside_behind part side equality set e es h = test_behind (Inside part side equality set) e es refl h

-- the same of steps that begin so
module _ (most : ℕ) (some : most ≡ 0 → ⊥) (all : List Step) (d s : Step) (l : 1 ≤ length all) (is : get_or all 0 d ≡ s) {X : Type 0} (now : X → List Step) (r : Option X) where
  abbrev tail : List Step
  tail = take (length all - 1) (drop 1 all)

  whole : s ∷ tail ≡ all
  whole = sym (first_is all d s l is)

  moved : {v : Step} → v ≡ s → MatchOption r (IsDeeper (v ∷ tail) most) (λ x. IsBehind (v ∷ tail) most (now x)) → MatchOption r (IsDeeper all most) (λ x. IsBehind all most (now x))
  moved same h = subst (λ ss. MatchOption r (IsDeeper ss most) (λ x. IsBehind ss most (now x))) (ap (λ w. w ∷ tail) same ∙ whole) h

  pub from_not : steps.Not ≡ s → MatchOption r (IsDeeper tail (most - 1)) (λ x. IsBehind tail (most - 1) (now x)) → MatchOption r (IsDeeper all most) (λ x. IsBehind all most (now x))
  from_not same h = moved same (match_ways r (not_deeper most some tail) (λ x. not_behind most some tail (now x)) h)

  pub from_and : steps.And ≡ s → MatchOption r (AreDeeper tail (most - 1)) (λ x. AreBehind tail (most - 1) (now x)) → MatchOption r (IsDeeper all most) (λ x. IsBehind all most (now x))
  from_and same h = moved same (match_ways r (and_deeper most some tail) (λ x. and_behind most some tail (now x)) h)

  pub from_or : steps.Or ≡ s → MatchOption r (AreDeeper tail (most - 1)) (λ x. AreBehind tail (most - 1) (now x)) → MatchOption r (IsDeeper all most) (λ x. IsBehind all most (now x))
  from_or same h = moved same (match_ways r (or_deeper most some tail) (λ x. or_behind most some tail (now x)) h)

module _ (most : ℕ) (some : most ≡ 0 → ⊥) (all : List Step) (d : Step) (l : 1 ≤ length all) where
  abbrev others : List Step
  others = take (length all - 1) (drop 1 all)

  pub from_parts : (part : Part) (equality : Equality) → get_or all 0 d ≡ steps.Compared part equality → IsBehind all most others
  from_parts part equality is = subst (λ ss. IsBehind ss most others) (sym (first_is all d _ l is)) (parts_behind most some others part equality)

  pub from_levels : (pair : LevelPair) (relation : Relation) → get_or all 0 d ≡ steps.Ranked pair relation → IsBehind all most others
  from_levels pair relation is = subst (λ ss. IsBehind ss most others) (sym (first_is all d _ l is)) (levels_behind most some others pair relation)

  pub from_inside : (part : Part) (side : Side) (equality : Equality) (set : List ℕ) → get_or all 0 d ≡ steps.Inside part side equality set → IsBehind all most others
  from_inside part side equality set is = subst (λ ss. IsBehind ss most others) (sym (first_is all d _ l is)) (inside_behind most some others part side equality set)

-- ---- two expressions

module _ (ss : List Step) (most : ℕ) where
  pub first_deeper : IsDeeper ss most → AreDeeper ss most
  first_deeper deeper e f es h l m = deeper e (f ∷ es) h l

  pub second_deeper : (rest : List Step) → IsBehind ss most rest → IsDeeper rest most → AreDeeper ss most
  second_deeper rest behind deeper e f es h l m = deeper f es (behind e (f ∷ es) h).1 m

  pub two_behind : (rest end : List Step) → IsBehind ss most rest → IsBehind rest most end → AreBehind ss most end
  two_behind rest end first second e f es h =
      let a = first e (f ∷ es) h in
      let b = second f es a.1 in
      (a.0, b.0, b.1)

  pub from_first : (rest : List Step) → IsBehind ss most rest → {X : Type 0} (now : X → List Step) (r : Option X) → MatchOption r (IsDeeper rest most) (λ x. IsBehind rest most (now x))
      → MatchOption r (AreDeeper ss most) (λ x. AreBehind ss most (now x))
  from_first rest behind now r h = match_ways r (second_deeper rest behind) (λ x. two_behind rest (now x) behind) h

-- ---- one expression

pub shallow_is : {X : Type 0} (now : X → List Step) (r : Option X) (b : Bool) (ss : List Step) (most : ℕ) → b ≡ is_some r → MatchOption r (IsDeeper ss most) (λ x. IsBehind ss most (now x))
    → (e : Expression (List ℕ)) → ss ≡ steps_of e → IsTrue b ↔ (levels_of e ≤ most)
shallow_is now None b ss most is h e same = (λ t. absurd (true≢false (sym t ∙ is)), λ le. absurd (h e [] (ap trees same ∙ one_tree e) le))
shallow_is now (Some x) b ss most is h e same = (λ t. (h e [] (ap trees same ∙ one_tree e)).0, λ le. is)
