-- How a term says what a constraint asks for. CIL Reference Guide, "Constraint Statements".
use Rattle.std.specs.Prelude.{Bool, true, false, if◌then◌else◌, List, [], ◌∷◌, ◌++◌, Option, Some, None}
use Rattle.std.specs.Option.{option_map}
use Rattle.cil_syntax.specs.declared.term.Op.{Op}
use Rattle.cil_syntax.specs.declared.term.Op.TheVariants as ops
use Rattle.cil_syntax.specs.Terms.{Term, Leaf, Name, Form, Terms, nil, cons}
use Rattle.cil_constraints.specs.declared.step.Part.TheVariants as parts
use Rattle.cil_constraints.specs.declared.step.Side.TheVariants as sides
use Rattle.cil_constraints.specs.declared.step.Equality.{Equality}
use Rattle.cil_constraints.specs.declared.step.Equality.TheVariants as equalities
use Rattle.cil_constraints.specs.declared.step.LevelPair.{LevelPair}
use Rattle.cil_constraints.specs.declared.step.LevelPair.TheVariants as pairs
use Rattle.cil_constraints.specs.declared.step.Relation.{Relation}
use Rattle.cil_constraints.specs.declared.step.Relation.TheVariants as relations
use Rattle.cil_constraints.specs.declared.variable.Variable.{Variable}
use Rattle.cil_constraints.specs.declared.variable.Variable.TheVariants.{PartOf, LowOf, HighOf}
use Rattle.cil_constraints.specs.Joins.{joined_or, joins_of}
use Rattle.cil_constraints.specs.Expressions.{Expression, Compared, Ranked, Inside}

-- ---- variables and operators

abbrev pub variable_of : Op → Option Variable
variable_of ops.SourceUser = Some (PartOf parts.User sides.Source)
variable_of ops.TargetUser = Some (PartOf parts.User sides.Target)
variable_of ops.SourceRole = Some (PartOf parts.Role sides.Source)
variable_of ops.TargetRole = Some (PartOf parts.Role sides.Target)
variable_of ops.SourceType = Some (PartOf parts.Kind sides.Source)
variable_of ops.TargetType = Some (PartOf parts.Kind sides.Target)
variable_of ops.SourceLow = Some (LowOf sides.Source)
variable_of ops.TargetLow = Some (LowOf sides.Target)
variable_of ops.SourceHigh = Some (HighOf sides.Source)
variable_of ops.TargetHigh = Some (HighOf sides.Target)
variable_of op = None

abbrev pub relation_of : Op → Option Relation
relation_of ops.Equal = Some relations.Equal
relation_of ops.Unequal = Some relations.Different
relation_of ops.Dominates = Some relations.Dominates
relation_of ops.DominatedBy = Some relations.DominatedBy
relation_of ops.Incomparable = Some relations.Incomparable
relation_of op = None

-- users, roles and types are equal or different
abbrev pub equality_of : Relation → Option Equality
equality_of relations.Equal = Some equalities.Equal
equality_of relations.Different = Some equalities.Different
equality_of relation = None

-- the six pairs of levels that can be compared
abbrev pub pair_of : Variable → Variable → Option LevelPair
pair_of (LowOf sides.Source) (LowOf sides.Target) = Some pairs.Lows
pair_of (LowOf sides.Source) (HighOf sides.Source) = Some pairs.SourceRange
pair_of (LowOf sides.Source) (HighOf sides.Target) = Some pairs.LowHigh
pair_of (LowOf sides.Target) (HighOf sides.Target) = Some pairs.TargetRange
pair_of (HighOf sides.Source) (LowOf sides.Target) = Some pairs.HighLow
pair_of (HighOf sides.Source) (HighOf sides.Target) = Some pairs.Highs
pair_of v w = None

-- the operator joins words to a list
abbrev pub is_union : Op → Bool
is_union ops.Union = true
is_union op = false

module _ {L : Type 0} where
  -- ---- comparisons

  abbrev pub levels_compared : Relation → Variable → Variable → Option (Expression (List L))
  levels_compared relation v w = option_map (λ pair. Ranked pair relation) (pair_of v w)

  -- two variables are compared: the second is the target's part of the same kind, or a level
  abbrev pub variables_compared : Relation → Variable → Option Variable → Option (Expression (List L))
  variables_compared relation v None = None
  variables_compared relation (PartOf part side) (Some w) = option_map (Compared part) (equality_of relation)
  variables_compared relation (LowOf side) (Some w) = levels_compared relation (LowOf side) w
  variables_compared relation (HighOf side) (Some w) = levels_compared relation (HighOf side) w

  -- a part is compared with what words stand for
  abbrev pub words_compared : Relation → Variable → List L → Option (Expression (List L))
  words_compared relation (PartOf part side) words = option_map (λ equality. Inside part side equality words) (equality_of relation)
  words_compared relation (LowOf side) words = None
  words_compared relation (HighOf side) words = None

  -- the word that a term is
  abbrev pub leaf_of : Term L → List L
  leaf_of (Leaf w) = w ∷ []
  leaf_of (Name at name) = []
  leaf_of (Form at op parts) = []

  -- the words that stand directly in some terms
  abbrev pub leaves : Terms L → List L
  leaves nil = []
  leaves (cons t ts) = leaf_of t ++ leaves ts

  -- the words with which a part is compared: one, or a list of words
  abbrev pub listed : Term L → Option (List L)
  listed (Leaf w) = Some (w ∷ [])
  listed (Name at name) = None
  listed (Form at op ts) = if is_union op then Some (leaves ts) else None

  -- the variable that a term is
  abbrev pub variable_in : Term L → Option Variable
  variable_in (Leaf w) = None
  variable_in (Name at name) = None
  variable_in (Form at op ts) = variable_of op

  -- what a variable is compared with: words, or a variable
  abbrev pub with_operand : Relation → Variable → Option (List L) → Option Variable → Option (Expression (List L))
  with_operand relation v (Some words) other = words_compared relation v words
  with_operand relation v None other = variables_compared relation v other

  abbrev pub both_there : Option Relation → Option Variable → Term L → Option (Expression (List L))
  both_there None v t = None
  both_there (Some relation) None t = None
  both_there (Some relation) (Some v) t = with_operand relation v (listed t) (variable_in t)

  -- a comparison has just two operands, a variable first
  abbrev pub compared : Op → Terms L → Option (Expression (List L))
  compared op nil = None
  compared op (cons v nil) = None
  compared op (cons v (cons t nil)) = both_there (relation_of op) (variable_in v) t
  compared op (cons v (cons t (cons u ts))) = None

  unfoldable mutual
    -- what the term asks for
    pub said : Term L → Option (Expression (List L))
    said (Leaf w) = None
    said (Name at name) = None
    said (Form at op ts) = joined_or (joins_of op) (all_said ts) (compared op ts)

    pub all_said : Terms L → List (Option (Expression (List L)))
    all_said nil = []
    all_said (cons t ts) = said t ∷ all_said ts
