-- The record of a rule, by the statement that says it. This project's profile.
use Rattle.std.specs.Prelude.{◌≡◌, ◌↔◌, ℕ, List, Contains, Option, slice_get, Some, IsBitSet, true}
use Rattle.std.specs.Ordering.{nat_cmp}
use Rattle.cil_base.specs.Lists.{Lists}
use Rattle.cil_syntax.specs.declared.kind.Keyword.{Keyword}
use Rattle.cil_syntax.specs.declared.kind.Kind.TheVariants as kinds
use Rattle.cil_syntax.specs.declared.term.Op.TheVariants as ops
use Rattle.cil_syntax.specs.Terms.{Term, Leaf, Name, Form, nil, cons}
use Rattle.cil_classes.specs.declared.row.Class.{Class}
use Rattle.cil_rules.specs.Rule.{Rule, Target, Types, Itself}
use Rattle.cil_classes.specs.blocks.Contents.{Branch as Said}
use Rattle.cil_conditions.specs.Conditions.{IsSaid}
use Rattle.cil_conditions.specs.Spelled.{IsBranchOf}
use Rattle.cil_conditions.specs.declared.branch.Branch.{Branch}
use Rattle.cil_classes.specs.names.Declarations.{Symbol, name_of}
use Rattle.cil_macros.specs.Item.{Item, OptSet, is_enabled}
use Rattle.cil_syntax.specs.Scopes.{ScopedWord}
use Rattle.cil_conditions.specs.known.Members.{StandsFor}
use Rattle.cil_classes.specs.Given.{HasPair}
use Rattle.cil_conditions.specs.known.Known.{IsNumbered}

-- what one record is about: the branch and the words of one statement, and one class
pub record Case : Type 0 where
  pub branch : Option Said
  pub source : ScopedWord
  pub target : Term ScopedWord
  pub class_permission : Term ScopedWord
  pub class_ : Symbol

-- the target reaches some type
abbrev pub HasTarget : List Item → OptSet → Term ScopedWord → Type 0
HasTarget xs s (Leaf w) = (t : Symbol) × StandsFor xs s kinds.Type_ w t
HasTarget xs s (Name at name) = ⊥
HasTarget xs s (Form at op parts) = op ≡ ops.Itself

-- what is asked of the branch of a statement: nothing, or that its condition is spelled by the section of these booleans
pub data Branching : Type 0 where
  ignored : Branching
  spelled : List (List ℕ) → Branching

abbrev pub IsTaken : List Item → OptSet → Branching → Option Said → Type 0
IsTaken xs s ignored b = Unit {0}
IsTaken xs s (spelled booleans) b = IsSaid xs s b

abbrev pub IsPut : List Item → OptSet → Branching → Option Said → Option Branch → Type 0
IsPut xs s ignored b r = Unit {0}
IsPut xs s (spelled booleans) b r = IsBranchOf xs s booleans b r

-- the statement is an enabled one with this first word, and the case is one of it. A case has a source, a target and a permission of the
-- class: a record without one of them covers nothing, and is not kept
pub record CaseBy (xs : List Item) (s : OptSet) (keyword : Keyword) (how : Branching) (x : Item) (k : Case) : Type 0 where
  pub enabled : is_enabled s x ≡ true
  pub is_keyword : x.keyword ≡ keyword
  pub branch : k.branch ≡ x.branch
  pub taken : IsTaken xs s how k.branch
  pub says : x.args ≡ cons (Leaf k.source) (cons k.target (cons k.class_permission nil))
  pub source : (t : Symbol) × StandsFor xs s kinds.Type_ k.source t
  pub target : HasTarget xs s k.target
  pub permission : (p : List ℕ) × HasPair xs s k.class_permission k.class_ p

-- the case is one of an enabled rule with this first word
pub record IsCase (xs : List Item) (s : OptSet) (keyword : Keyword) (how : Branching) (k : Case) : Type 0 where
  pub item : Item
  pub is_item : Contains xs item
  pub by : CaseBy xs s keyword how item k

-- the number of a type for which the word stands
pub record HasNumber (xs : List Item) (s : OptSet) (types : List (List ℕ)) (w : ScopedWord) (n : ℕ) : Type 0 where
  pub kind : Symbol
  pub stands : StandsFor xs s kinds.Type_ w kind
  pub numbered : IsNumbered types kind n

-- the target of a record: the numbers of its types, or the source itself
abbrev pub IsTargetOf : List Item → OptSet → List (List ℕ) → Term ScopedWord → Target → Type 0
IsTargetOf xs s types (Leaf w) (Types numbers) = Lists nat_cmp (HasNumber xs s types w) numbers
IsTargetOf xs s types (Leaf w) Itself = ⊥
IsTargetOf xs s types (Name at name) target = ⊥
IsTargetOf xs s types (Form at op parts) target = (op ≡ ops.Itself) × (target ≡ Itself)

-- the bit stands for a permission of the class that the class permission gives
pub record HasBit (xs : List Item) (s : OptSet) (k : Case) (row : Class) (bit : ℕ) : Type 0 where
  pub permission : List ℕ
  pub is_permission : slice_get row.permissions bit ≡ Some permission
  pub gives : HasPair xs s k.class_permission k.class_ permission

-- the record of a case, by the sections that number types and classes
pub record IsRuleOf (xs : List Item) (s : OptSet) (types : List (List ℕ)) (classes : List Class) (how : Branching) (k : Case) (r : Rule) : Type 0 where
  pub branch : IsPut xs s how k.branch r.branch
  pub source : Lists nat_cmp (HasNumber xs s types k.source) r.source
  pub target : IsTargetOf xs s types k.target r.target
  pub row : Class
  pub is_row : slice_get classes r.class ≡ Some row
  pub named : row.name ≡ name_of k.class_
  pub mask : (bit : ℕ) → IsBitSet r.mask bit ↔ HasBit xs s k row bit
