-- Worked bytes of constraints, computed: each row is a sentence of the layout.
use Rattle.std.proofs.Common.{◌≡◌, ℕ, zero, suc, true, false, List, [], ◌∷◌, ◌++◌, Ok, Err, refl}
use Rattle.cil_format.specs.declared.fault.TableFault.TheVariants.{Short, NotCanonical, OutOfRange}
use Rattle.cil_format.specs.Format.{many_at, rising_at}
use Rattle.cil_constraints.specs.declared.mask.Constraint.{Constraint}
use Rattle.cil_constraints.specs.declared.step.Part.TheVariants as parts
use Rattle.cil_constraints.specs.declared.step.Side.TheVariants as sides
use Rattle.cil_constraints.specs.declared.step.Equality.TheVariants as equalities
use Rattle.cil_constraints.specs.declared.step.Equality.{Equality}
use Rattle.cil_constraints.specs.declared.step.LevelPair.TheVariants as pairs
use Rattle.cil_constraints.specs.declared.step.Relation.TheVariants as relations
use Rattle.cil_constraints.specs.declared.step.Step.{Step}
use Rattle.cil_constraints.specs.declared.step.Step.TheVariants as steps
use Rattle.cil_constraints.specs.Expressions.{Negated, Compared, trees}
use Rattle.cil_constraint_bytes.specs.Layout.{Limits, constraint, constraints, expression, tree}

-- class 0 has two permissions, class 1 has one; there are two users, three roles and four types
abbrev limits : Limits
limits = record { widths = 2 ∷ 1 ∷ []; users = 2; roles = 3; types = 4; are_on = true }

abbrev without_levels : Limits
without_levels = record { widths = 2 ∷ 1 ∷ []; users = 2; roles = 3; types = 4; are_on = false }

-- ---- a constraint, its bytes and back

-- class 1, permission 0: (or (eq u1 u2) (and (not (dom h1 l2)) (neq t2 {1, 3})))
abbrev value : Constraint
value = record {
  class = 1;
  mask = 1;
  expr =
      steps.Or ∷ steps.Compared parts.User equalities.Equal ∷ steps.And ∷ steps.Not ∷ steps.Ranked pairs.HighLow relations.Dominates
      ∷ steps.Inside parts.Kind sides.Target equalities.Different (1 ∷ 3 ∷ []) ∷ [];
}

abbrev value_bytes : List ℕ
value_bytes = 0 ∷ 1 ∷ 0 ∷ 0 ∷ 0 ∷ 1 ∷ 4 ∷ 16 ∷ 0 ∷ 1 ∷ 0 ∷ 3 ∷ 2 ∷ 16 ∷ 8 ∷ 7 ∷ 2 ∷ 17 ∷ 5 ∷ 1 ∷ 0 ∷ 2 ∷ 0 ∷ 1 ∷ 0 ∷ 3 ∷ []

laid_out : (constraint limits).spell value ≡ value_bytes
unfolding tree trees
laid_out = refl

is_read : (constraint limits).read value_bytes ≡ Ok (value, [])
unfolding tree many_at
is_read = refl

-- what is behind a record stays
left_over : (constraint limits).read (value_bytes ++ 7 ∷ 8 ∷ []) ≡ Ok (value, 7 ∷ 8 ∷ [])
unfolding tree many_at
left_over = refl

-- ---- class and mask

-- class 2, where there are two: told before the mask is there
class_range : (constraint limits).read (0 ∷ 2 ∷ []) ≡ Err OutOfRange
class_range = refl

class_short : (constraint limits).read (0 ∷ []) ≡ Err Short
class_short = refl

-- bit 2 of a class with two permissions, and bit 1 of one with one
mask_range : (constraint limits).read (0 ∷ 0 ∷ 0 ∷ 0 ∷ 0 ∷ 4 ∷ []) ≡ Err OutOfRange
mask_range = refl

mask_of_next : (constraint limits).read (0 ∷ 1 ∷ 0 ∷ 0 ∷ 0 ∷ 2 ∷ []) ≡ Err OutOfRange
mask_of_next = refl

mask_short : (constraint limits).read (0 ∷ 0 ∷ 0 ∷ 0 ∷ 0 ∷ []) ≡ Err Short
mask_short = refl

-- mask 0 is told at the end of the record: a 95 and the end of the bytes come first
mask_none : (constraint limits).read (0 ∷ 0 ∷ 0 ∷ 0 ∷ 0 ∷ 0 ∷ 16 ∷ 0 ∷ 1 ∷ 0 ∷ []) ≡ Err NotCanonical
unfolding tree
mask_none = refl

mask_none_tag : (constraint limits).read (0 ∷ 0 ∷ 0 ∷ 0 ∷ 0 ∷ 0 ∷ 5 ∷ []) ≡ Err OutOfRange
unfolding tree
mask_none_tag = refl

mask_none_short : (constraint limits).read (0 ∷ 0 ∷ 0 ∷ 0 ∷ 0 ∷ 0 ∷ 16 ∷ 0 ∷ 1 ∷ []) ≡ Err Short
unfolding tree
mask_none_short = refl

-- ---- tags

tag_1 : (expression limits).read (1 ∷ []) ≡ Err OutOfRange
unfolding tree
tag_1 = refl

tag_5 : (expression limits).read (5 ∷ []) ≡ Err OutOfRange
unfolding tree
tag_5 = refl

tag_18 : (expression limits).read (18 ∷ []) ≡ Err OutOfRange
unfolding tree
tag_18 = refl

tag_short : (expression limits).read [] ≡ Err Short
unfolding tree
tag_short = refl

-- the second operand is judged as the first
operand_tag : (expression limits).read (3 ∷ 16 ∷ 2 ∷ 3 ∷ 1 ∷ 0 ∷ []) ≡ Err OutOfRange
unfolding tree
operand_tag = refl

-- ---- pairs

-- each pair of which something may be said: u1 u2, r1 r2, t1 t2; l1 l2, l1 h1, l1 h2, l2 h2, h1 l2, h1 h2
users_read : (expression limits).read (16 ∷ 0 ∷ 1 ∷ 1 ∷ []) ≡ Ok (steps.Compared parts.User equalities.Different ∷ [], [])
unfolding tree
users_read = refl

roles_read : (expression limits).read (16 ∷ 2 ∷ 3 ∷ 0 ∷ []) ≡ Ok (steps.Compared parts.Role equalities.Equal ∷ [], [])
unfolding tree
roles_read = refl

types_read : (expression limits).read (16 ∷ 4 ∷ 5 ∷ 0 ∷ []) ≡ Ok (steps.Compared parts.Kind equalities.Equal ∷ [], [])
unfolding tree
types_read = refl

lows_read : (expression limits).read (16 ∷ 6 ∷ 7 ∷ 0 ∷ []) ≡ Ok (steps.Ranked pairs.Lows relations.Equal ∷ [], [])
unfolding tree
lows_read = refl

source_range_read : (expression limits).read (16 ∷ 6 ∷ 8 ∷ 1 ∷ []) ≡ Ok (steps.Ranked pairs.SourceRange relations.Different ∷ [], [])
unfolding tree
source_range_read = refl

low_high_read : (expression limits).read (16 ∷ 6 ∷ 9 ∷ 2 ∷ []) ≡ Ok (steps.Ranked pairs.LowHigh relations.Dominates ∷ [], [])
unfolding tree
low_high_read = refl

target_range_read : (expression limits).read (16 ∷ 7 ∷ 9 ∷ 3 ∷ []) ≡ Ok (steps.Ranked pairs.TargetRange relations.DominatedBy ∷ [], [])
unfolding tree
target_range_read = refl

high_low_read : (expression limits).read (16 ∷ 8 ∷ 7 ∷ 4 ∷ []) ≡ Ok (steps.Ranked pairs.HighLow relations.Incomparable ∷ [], [])
unfolding tree
high_low_read = refl

highs_read : (expression limits).read (16 ∷ 8 ∷ 9 ∷ 4 ∷ []) ≡ Ok (steps.Ranked pairs.Highs relations.Incomparable ∷ [], [])
unfolding tree
highs_read = refl

-- no variable: told at its byte. A variable that begins no pair is told at the second byte
variable_range : (expression limits).read (16 ∷ 10 ∷ []) ≡ Err OutOfRange
unfolding tree
variable_range = refl

second_short : (expression limits).read (16 ∷ 1 ∷ []) ≡ Err Short
unfolding tree
second_short = refl

second_first : (expression limits).read (16 ∷ 1 ∷ 0 ∷ []) ≡ Err OutOfRange
unfolding tree
second_first = refl

user_role : (expression limits).read (16 ∷ 0 ∷ 3 ∷ []) ≡ Err OutOfRange
unfolding tree
user_role = refl

same_variable : (expression limits).read (16 ∷ 6 ∷ 6 ∷ []) ≡ Err OutOfRange
unfolding tree
same_variable = refl

range_turned : (expression limits).read (16 ∷ 8 ∷ 6 ∷ []) ≡ Err OutOfRange
unfolding tree
range_turned = refl

no_second : (expression limits).read (16 ∷ 6 ∷ 10 ∷ []) ≡ Err OutOfRange
unfolding tree
no_second = refl

-- without levels l1 is told at its byte
level_off : (expression without_levels).read (16 ∷ 6 ∷ []) ≡ Err OutOfRange
unfolding tree
level_off = refl

part_off : (expression without_levels).read (16 ∷ 4 ∷ 5 ∷ 0 ∷ []) ≡ Ok (steps.Compared parts.Kind equalities.Equal ∷ [], [])
unfolding tree
part_off = refl

-- users, roles and types are equal or different; levels have five relations
part_dom : (expression limits).read (16 ∷ 0 ∷ 1 ∷ 2 ∷ []) ≡ Err OutOfRange
unfolding tree
part_dom = refl

level_op : (expression limits).read (16 ∷ 6 ∷ 7 ∷ 5 ∷ []) ≡ Err OutOfRange
unfolding tree
level_op = refl

-- ---- sets

-- an empty set is one
set_empty : (expression limits).read (17 ∷ 2 ∷ 0 ∷ 0 ∷ 0 ∷ []) ≡ Ok (steps.Inside parts.Role sides.Source equalities.Equal [] ∷ [], [])
unfolding tree many_at
set_empty = refl

-- a level is in no set, and a variable of a part is in one or not
member_level : (expression limits).read (17 ∷ 6 ∷ []) ≡ Err OutOfRange
unfolding tree
member_level = refl

member_dom : (expression limits).read (17 ∷ 0 ∷ 2 ∷ []) ≡ Err OutOfRange
unfolding tree
member_dom = refl

-- a count over what there is: told before the numbers. So many users, roles and types there are
users_count : (expression limits).read (17 ∷ 1 ∷ 0 ∷ 0 ∷ 3 ∷ []) ≡ Err OutOfRange
unfolding tree
users_count = refl

roles_count : (expression limits).read (17 ∷ 3 ∷ 0 ∷ 0 ∷ 4 ∷ []) ≡ Err OutOfRange
unfolding tree
roles_count = refl

types_count : (expression limits).read (17 ∷ 4 ∷ 0 ∷ 0 ∷ 5 ∷ []) ≡ Err OutOfRange
unfolding tree
types_count = refl

users_number : (expression limits).read (17 ∷ 0 ∷ 0 ∷ 0 ∷ 1 ∷ 0 ∷ 2 ∷ []) ≡ Err OutOfRange
unfolding tree many_at
users_number = refl

types_number : (expression limits).read (17 ∷ 5 ∷ 0 ∷ 0 ∷ 1 ∷ 0 ∷ 3 ∷ []) ≡ Ok (steps.Inside parts.Kind sides.Target equalities.Equal (3 ∷ []) ∷ [], [])
unfolding tree many_at
types_number = refl

-- a set that falls, or has a number twice
set_falls : (expression limits).read (17 ∷ 4 ∷ 0 ∷ 0 ∷ 2 ∷ 0 ∷ 1 ∷ 0 ∷ 0 ∷ []) ≡ Err NotCanonical
unfolding tree many_at
set_falls = refl

set_twice : (expression limits).read (17 ∷ 4 ∷ 0 ∷ 0 ∷ 2 ∷ 0 ∷ 1 ∷ 0 ∷ 1 ∷ []) ≡ Err NotCanonical
unfolding tree many_at
set_twice = refl

-- a number out of range comes before the order of the set, and the end before both
range_first : (expression limits).read (17 ∷ 4 ∷ 0 ∷ 0 ∷ 3 ∷ 0 ∷ 1 ∷ 0 ∷ 0 ∷ 0 ∷ 4 ∷ []) ≡ Err OutOfRange
unfolding tree many_at
range_first = refl

end_first : (expression limits).read (17 ∷ 4 ∷ 0 ∷ 0 ∷ 3 ∷ 0 ∷ 1 ∷ 0 ∷ 0 ∷ 0 ∷ []) ≡ Err Short
unfolding tree many_at
end_first = refl

-- ---- levels

-- so many operators, one in the other, and a test
abbrev nots : ℕ → List ℕ → List ℕ
nots zero rest = rest
nots (suc n) rest = 2 ∷ nots n rest

-- the leaf counts: two levels, where two are allowed, and where one is; the tag of the level too many is not read
two_levels : (tree limits 2).read (2 ∷ 16 ∷ 0 ∷ 1 ∷ 0 ∷ []) ≡ Ok (Negated (Compared parts.User equalities.Equal), [])
unfolding tree
two_levels = refl

too_deep : (tree limits 1).read (2 ∷ []) ≡ Err OutOfRange
unfolding tree
too_deep = refl

abbrev not_steps : ℕ → List Step → List Step
not_steps zero ss = ss
not_steps (suc n) ss = steps.Not ∷ not_steps n ss

-- 128 levels pass
deepest : (expression limits).read (nots 127 (16 ∷ 0 ∷ 1 ∷ 0 ∷ [])) ≡ Ok (not_steps 127 (steps.Compared parts.User equalities.Equal ∷ []), [])
unfolding tree
deepest = refl

-- behind 128 operators nothing passes, and no byte is wanted; behind 127 one is
deepest_left : (constraint limits).read (0 ∷ 1 ∷ 0 ∷ 0 ∷ 0 ∷ 1 ∷ nots 127 (16 ∷ 0 ∷ 1 ∷ [])) ≡ Err Short
unfolding tree
deepest_left = refl

level_129 : (expression limits).read (nots 128 []) ≡ Err OutOfRange
unfolding tree
level_129 = refl

level_128 : (expression limits).read (nots 127 []) ≡ Err Short
unfolding tree
level_128 = refl

-- ---- the section

abbrev first : List ℕ
first = 0 ∷ 0 ∷ 0 ∷ 0 ∷ 0 ∷ 3 ∷ 16 ∷ 0 ∷ 1 ∷ 0 ∷ []

abbrev second : List ℕ
second = 0 ∷ 0 ∷ 0 ∷ 0 ∷ 0 ∷ 3 ∷ 16 ∷ 0 ∷ 1 ∷ 1 ∷ []

abbrev constraint_by : Equality → Constraint
constraint_by equality = record { class = 0; mask = 3; expr = steps.Compared parts.User equality ∷ [] }

none_read : (constraints limits).read (0 ∷ 0 ∷ 0 ∷ 0 ∷ []) ≡ Ok ([], [])
unfolding rising_at
none_read = refl

rising_read : (constraints limits).read (0 ∷ 0 ∷ 0 ∷ 2 ∷ (first ++ second)) ≡ Ok (constraint_by equalities.Equal ∷ constraint_by equalities.Different ∷ [], [])
unfolding tree rising_at
rising_read = refl

falling : (constraints limits).read (0 ∷ 0 ∷ 0 ∷ 2 ∷ (second ++ first)) ≡ Err NotCanonical
unfolding tree rising_at
falling = refl

twice : (constraints limits).read (0 ∷ 0 ∷ 0 ∷ 2 ∷ (first ++ first)) ≡ Err NotCanonical
unfolding tree rising_at
twice = refl

-- the order is judged at the end of a record: a 95 in it comes first
falling_range : (constraints limits).read (0 ∷ 0 ∷ 0 ∷ 2 ∷ (second ++ (0 ∷ 0 ∷ 0 ∷ 0 ∷ 0 ∷ 3 ∷ 16 ∷ 0 ∷ 1 ∷ 2 ∷ []))) ≡ Err OutOfRange
unfolding tree rising_at
falling_range = refl

-- a record fewer than counted
fewer : (constraints limits).read (255 ∷ 255 ∷ 255 ∷ 255 ∷ first) ≡ Err Short
unfolding tree rising_at
fewer = refl
