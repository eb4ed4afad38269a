-- The values of conditions as statements say them, and the branches of booleanifs. CIL Reference Guide, "booleanif" and
-- "Boolean Expressions".
use Rattle.std.specs.Prelude.{◌≡◌, ℕ, Bool, true, false, List, Option, Some, None}
use Rattle.cil_syntax.specs.declared.kind.Kind.TheVariants as kinds
use Rattle.cil_syntax.specs.declared.term.Op.{Op}
use Rattle.cil_syntax.specs.declared.term.Op.TheVariants as ops
use Rattle.cil_syntax.specs.Expressions.{differ}
use Rattle.cil_syntax.specs.Scopes.{ScopedWord}
use Rattle.cil_syntax.specs.Terms.{Term, Leaf, Name, Form, Terms, nil, cons}
use Rattle.cil_known.specs.blocks.Contents.{Branch}
use Rattle.cil_known.specs.macros.Item.{Item, OptSet}
use Rattle.cil_known.specs.names.Declarations.{Symbol, name_of}
use Rattle.cil_known.specs.Members.{StandsFor}
use Rattle.cil_conditions.specs.declared.token.Token.{Token}
use Rattle.cil_conditions.specs.declared.token.Token.TheVariants as tokens
use Rattle.cil_conditions.specs.Truth.{truth_of}

-- the settings of a policy: which booleans are on, by their qualified names
abbrev pub Settings : Type 0
Settings = List ℕ → Bool

-- the operator over two operands that a token is
abbrev pub op_of : Token → Option Op
op_of tokens.And = Some ops.And
op_of tokens.Or = Some ops.Or
op_of tokens.Xor = Some ops.Xor
op_of tokens.Equal = Some ops.Equal
op_of tokens.Unequal = Some ops.Unequal
op_of t = None

-- whether an operator over one operand turns its value: `not` does, and a list of one expression does not
abbrev pub turns : Op → Option Bool
turns ops.Group = Some false
turns ops.Not = Some true
turns op = None

module _ (xs : List Item) (s : OptSet) (v : Settings) where
  abbrev mutual
    -- the condition has this value
    pub HasTruth : Term ScopedWord → Bool → Type 0
    HasTruth (Leaf w) value = (b : Symbol) × StandsFor xs s kinds.Boolean w b × (v (name_of b) ≡ value)
    HasTruth (Name at name) value = ⊥
    HasTruth (Form at op parts) value = FormHasTruth op parts value

    pub FormHasTruth : Op → Terms ScopedWord → Bool → Type 0
    FormHasTruth op nil value = ⊥
    FormHasTruth op (cons a nil) value = (turn inner : Bool) × (turns op ≡ Some turn) × HasTruth a inner × (value ≡ differ turn inner)
    FormHasTruth op (cons a (cons b nil)) value =
        (t : Token) × (first second : Bool) × (op_of t ≡ Some op) × HasTruth a first × HasTruth b second × (value ≡ truth_of t first second)
    FormHasTruth op (cons a (cons b (cons c more))) value = ⊥

  -- the statement is in no branch, or its condition has the value of the branch
  abbrev pub IsChosen : Option Branch → Type 0
  IsChosen None = Unit {0}
  IsChosen (Some b) = HasTruth b.0 b.1

module _ (xs : List Item) (s : OptSet) where
  abbrev mutual
    -- each word of the condition names a boolean, and each operator is one
    pub NamesBooleans : Term ScopedWord → Type 0
    NamesBooleans (Leaf w) = (b : Symbol) × StandsFor xs s kinds.Boolean w b
    NamesBooleans (Name at name) = ⊥
    NamesBooleans (Form at op parts) = FormNamesBooleans op parts

    pub FormNamesBooleans : Op → Terms ScopedWord → Type 0
    FormNamesBooleans op nil = ⊥
    FormNamesBooleans op (cons a nil) = (turn : Bool) × (turns op ≡ Some turn) × NamesBooleans a
    FormNamesBooleans op (cons a (cons b nil)) = (t : Token) × (op_of t ≡ Some op) × NamesBooleans a × NamesBooleans b
    FormNamesBooleans op (cons a (cons b (cons c more))) = ⊥

  -- the statement is in no branch, or its condition has a value for any settings
  abbrev pub IsSaid : Option Branch → Type 0
  IsSaid None = Unit {0}
  IsSaid (Some b) = NamesBooleans b.0
