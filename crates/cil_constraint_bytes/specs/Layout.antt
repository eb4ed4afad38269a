-- How the constraints of tables are laid out: section 17. This project's profile.
use Rattle.std.specs.Prelude.{ℕ, zero, suc, ◌^◌, Bool, List, [], ◌∷◌, length, nat_lt, nat_le, ◌==◌, ◌&&◌, ◌||◌, if◌then◌else◌}
use Rattle.std.specs.Int.{w8}
use Rattle.cil_format.specs.declared.fault.TableFault.TheVariants.{NotCanonical, OutOfRange}
use Rattle.cil_format.specs.Fields.{below, byte_below, mask, set, small}
use Rattle.cil_format.specs.Format.{Format, as_type, both, checked, choose, keyed, number, refused, section}
use Rattle.cil_constraints.specs.declared.mask.Constraint.{Constraint}
use Rattle.cil_constraints.specs.declared.step.Part.{Part}
use Rattle.cil_constraints.specs.declared.step.Part.TheVariants as parts
use Rattle.cil_constraints.specs.declared.step.Side.{Side}
use Rattle.cil_constraints.specs.declared.step.Side.TheVariants as sides
use Rattle.cil_constraints.specs.declared.step.Equality.{Equality}
use Rattle.cil_constraints.specs.declared.step.Equality.TheVariants as equalities
use Rattle.cil_constraints.specs.declared.step.LevelPair.{LevelPair}
use Rattle.cil_constraints.specs.declared.step.LevelPair.TheVariants as pairs
use Rattle.cil_constraints.specs.declared.step.Relation.{Relation}
use Rattle.cil_constraints.specs.declared.step.Relation.TheVariants as relations
use Rattle.cil_constraints.specs.declared.step.Step.{Step}
use Rattle.cil_constraints.specs.Expressions.{Expression, Negated, Both, Either, Compared, Ranked, Inside, steps_of, trees}
use Rattle.cil_constraints.specs.Order.{variable_byte, first_byte, second_byte, equality_byte, relation_byte}

-- what the sections before this one say of what stands in it
pub record Limits : Type 0 where
  pub widths : List ℕ  -- how many permissions each class has
  pub users : ℕ
  pub roles : ℕ
  pub types : ℕ
  pub are_on : Bool  -- whether the policy has levels

-- ---- variables, operations and pairs

-- u1 0, u2 1, r1 2, r2 3, t1 4, t2 5: the part, and the context that it is of
abbrev pub part_by : ℕ → Part
part_by v = if nat_lt v 2 then parts.User else if nat_lt v 4 then parts.Role else parts.Kind

abbrev pub side_by : ℕ → Side
side_by v = if v == 0 || v == 2 || v == 4 then sides.Source else sides.Target

-- l1 6, l2 7, h1 8, h2 9: two of them that may be compared
abbrev pub pair_by : ℕ → ℕ → LevelPair
pair_by u v =
    if u == 7 then pairs.TargetRange
    else if u == 8 then (if v == 7 then pairs.HighLow else pairs.Highs)
    else if v == 7 then pairs.Lows
    else if v == 8 then pairs.SourceRange
    else pairs.LowHigh

-- eq 0, neq 1
abbrev pub equality_by : ℕ → Equality
equality_by op = if op == 0 then equalities.Equal else equalities.Different

-- eq 0, neq 1, dom 2, domby 3, incomp 4
abbrev pub relation_by : ℕ → Relation
relation_by op =
    if op == 0 then relations.Equal
    else if op == 1 then relations.Different
    else if op == 2 then relations.Dominates
    else if op == 3 then relations.DominatedBy
    else relations.Incomparable

-- a level is a variable only where the policy has levels
abbrev pub variables : Limits → ℕ
variables limits = if limits.are_on then 10 else 6

-- a variable of a part is no level
abbrev pub is_part : ℕ → Bool
is_part v = nat_lt v 6

-- the second variable of a pair, by the first: u1 u2, r1 r2, t1 t2; l1 l2, l1 h1, l1 h2; l2 h2; h1 l2, h1 h2
abbrev pub pairs_with : ℕ → ℕ → Bool
pairs_with u v =
    (u == 0 && v == 1) || (u == 2 && v == 3) || (u == 4 && v == 5) || (u == 6 && (v == 7 || v == 8 || v == 9)) || (u == 7 && v == 9)
    || (u == 8 && (v == 7 || v == 9))

-- how many operations there are for a pair, by the first of the two
abbrev pub operations : ℕ → ℕ
operations u = if is_part u then 2 else 5

-- how many items there are of which a set may have some, by the variable that is compared with it
abbrev pub members : Limits → ℕ → ℕ
members limits v = if nat_lt v 2 then limits.users else if nat_lt v 4 then limits.roles else limits.types

-- ---- expressions

abbrev pub tag_of : Expression (List ℕ) → ℕ
tag_of (Negated a) = 2
tag_of (Both a b) = 3
tag_of (Either a b) = 4
tag_of (Compared part equality) = 16
tag_of (Ranked pair relation) = 16
tag_of (Inside part side equality numbers) = 17

-- the parts of an expression, where it has such parts
abbrev pub only_part : Expression (List ℕ) → Expression (List ℕ)
only_part (Negated a) = a
only_part other = other

abbrev pub two_parts : Expression (List ℕ) → Expression (List ℕ) × Expression (List ℕ)
two_parts (Both a b) = (a, b)
two_parts (Either a b) = (a, b)
two_parts other = (other, other)

abbrev pub pair_parts : Expression (List ℕ) → ℕ × (ℕ × ℕ)
pair_parts (Compared part equality) = (variable_byte part sides.Source, (variable_byte part sides.Target, equality_byte equality))
pair_parts (Ranked pair relation) = (first_byte pair, (second_byte pair, relation_byte relation))
pair_parts other = (0, (0, 0))

abbrev pub member_parts : Expression (List ℕ) → ℕ × (ℕ × List ℕ)
member_parts (Inside part side equality numbers) = (variable_byte part side, (equality_byte equality, numbers))
member_parts other = (0, (0, []))

-- variable, variable, operation
abbrev pub pair_fields : Limits → Format (ℕ × (ℕ × ℕ))
pair_fields limits = both (byte_below (variables limits)) (λ u. both (checked (pairs_with u) OutOfRange (number w8 (2 ^ 8))) (λ v. byte_below (operations u)))

abbrev pub pair_of : ℕ × (ℕ × ℕ) → Expression (List ℕ)
pair_of p = if is_part p.0 then Compared (part_by p.0) (equality_by p.1.1) else Ranked (pair_by p.0 p.1.0) (relation_by p.1.1)

abbrev pub pair : Limits → Format (Expression (List ℕ))
pair limits = as_type pair_of pair_parts (pair_fields limits)

-- variable, operation, set
abbrev pub member_fields : Limits → Format (ℕ × (ℕ × List ℕ))
member_fields limits = both (byte_below 6) (λ v. both (byte_below 2) (λ op. set (members limits v)))

abbrev pub member_of : ℕ × (ℕ × List ℕ) → Expression (List ℕ)
member_of p = Inside (part_by p.0) (side_by p.0) (equality_by p.1.0) p.1.1

abbrev pub member : Limits → Format (Expression (List ℕ))
member limits = as_type member_of member_parts (member_fields limits)

-- what stands behind a tag
abbrev pub node : Limits → Format (Expression (List ℕ)) → ℕ → Format (Expression (List ℕ))
node limits operand tag =
    choose (tag == 2) (as_type Negated only_part operand)
    (choose (tag == 3) (as_type (λ p. Both p.0 p.1) two_parts (both operand (λ a. operand)))
    (choose (tag == 4) (as_type (λ p. Either p.0 p.1) two_parts (both operand (λ a. operand)))
    (choose (tag == 16) (pair limits)
    (choose (tag == 17) (member limits)
    (refused OutOfRange)))))

-- expressions of so many levels at most: their tag, and then their operands in order
unfoldable pub tree : Limits → ℕ → Format (Expression (List ℕ))
tree limits zero = refused OutOfRange
tree limits (suc levels) = keyed tag_of (number w8 (2 ^ 8)) (node limits (tree limits levels))

-- ---- as steps

-- the first of some expressions; what stands for none is never read
abbrev pub first_tree : List (Expression (List ℕ)) → Expression (List ℕ)
first_tree [] = Compared parts.User equalities.Equal
first_tree (e ∷ es) = e

-- the expression that some steps are those of
abbrev pub tree_in : List Step → Expression (List ℕ)
tree_in ss = first_tree (trees ss)

-- an expression of 128 levels at most, by its steps
abbrev pub expression : Limits → Format (List Step)
expression limits = as_type steps_of tree_in (tree limits 128)

-- ---- constraints

abbrev pub fields_of : Constraint → ℕ × (ℕ × List Step)
fields_of c = (c.class, (c.mask, c.expr))

abbrev pub constraint_of : ℕ × (ℕ × List Step) → Constraint
constraint_of p = record { class = p.0; mask = p.1.0; expr = p.1.1 }

-- class, mask, expression
abbrev pub constraint_fields : Limits → Format (ℕ × (ℕ × List Step))
constraint_fields limits = both (small (length limits.widths)) (λ class. both (mask limits.widths class) (λ m. expression limits))

-- a constraint, on some permission or none
abbrev pub any_constraint : Limits → Format Constraint
any_constraint limits = as_type constraint_of fields_of (constraint_fields limits)

-- a constraint is on some permission
abbrev pub constraint : Limits → Format Constraint
constraint limits = checked (λ c. nat_lt 0 c.mask) NotCanonical (any_constraint limits)

-- the section: its records rise by their bytes
abbrev pub constraints : Limits → Format (List Constraint)
constraints limits = section below (λ n. nat_le n 4294967295) (constraint limits)
