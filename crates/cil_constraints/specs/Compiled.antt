-- Which records of constraints a policy has, by numbers. This project's profile.
use Rattle.std.specs.Prelude.{◌≡◌, ◌↔◌, ℕ, List, slice_get, Some, IsBitSet}
use Rattle.cil_syntax.specs.declared.kind.Keyword.{Keyword}
use Rattle.cil_syntax.specs.declared.kind.Kind.{Kind}
use Rattle.cil_syntax.specs.Terms.{Term, nil, cons}
use Rattle.cil_syntax.specs.Scopes.{ScopedWord}
use Rattle.cil_macros.specs.Item.{Item, OptSet}
use Rattle.cil_classes.specs.names.Declarations.{Symbol, name_of}
use Rattle.cil_classes.specs.known.Says.{Says}
use Rattle.cil_classes.specs.declared.row.Class.{Class}
use Rattle.cil_classes.specs.Given.{HasPair}
use Rattle.cil_constraints.specs.declared.mask.Constraint.{Constraint}
use Rattle.cil_constraints.specs.Expressions.{Expression, steps_of}
use Rattle.cil_constraints.specs.Numbered.{IsExpressionOf}
use Rattle.cil_constraints.specs.Constrained.{IsConstraining}
use Rattle.cil_constraints.specs.Saying.{said}

-- what one record is about: what one statement says, and one class
pub record ConstraintCase : Type 0 where
  pub class_permission : Term ScopedWord
  pub expression : Expression (List ScopedWord)
  pub class_ : Symbol

-- an enabled constraint says so, and is on a permission of the class
pub record IsConstraintCase (xs : List Item) (s : OptSet) (k : ConstraintCase) : Type 0 where
  pub keyword : Keyword
  pub constraining : IsConstraining xs s keyword
  pub term : Term ScopedWord
  pub statement : Says xs s keyword (cons k.class_permission (cons term nil))
  pub said : said term ≡ Some k.expression
  pub permission : (p : List ℕ) × HasPair xs s k.class_permission k.class_ p

-- the bit stands for a permission of the class that the class permission gives
pub record HasBit (xs : List Item) (s : OptSet) (class_permission : Term ScopedWord) (class_ : Symbol) (row : Class) (bit : ℕ) : Type 0 where
  pub permission : List ℕ
  pub is_permission : slice_get row.permissions bit ≡ Some permission
  pub gives : HasPair xs s class_permission class_ permission

-- the record of a case, by the sections that number names and classes
pub record IsConstraintOf (xs : List Item) (s : OptSet) (names : Kind → List (List ℕ)) (classes : List Class) (k : ConstraintCase) (c : Constraint) : Type 0 where
  pub expression : Expression (List ℕ)
  pub is_expression : IsExpressionOf xs s names k.expression expression
  pub steps : c.expr ≡ steps_of expression
  pub row : Class
  pub is_row : slice_get classes c.class ≡ Some row
  pub named : row.name ≡ name_of k.class_
  pub mask : (bit : ℕ) → IsBitSet c.mask bit ↔ HasBit xs s k.class_permission k.class_ row bit
