-- Which permissions of which classes a class permission gives. CIL Reference Guide, "Class and Permission Statements".
use Rattle.std.specs.Prelude.{◌≡◌, ℕ, true, List}
use Rattle.cil_syntax.specs.declared.kind.Kind.TheVariants as kinds
use Rattle.cil_syntax.specs.declared.term.Op.TheVariants as ops
use Rattle.cil_faults.specs.declared.spot.Spot.{Spot}
use Rattle.cil_syntax.specs.Terms.{Term, Leaf, Form, nil, cons}
use Rattle.cil_names.specs.Declarations.{Symbol}
use Rattle.cil_macros.specs.Item.{Item, OptSet}
use Rattle.cil_syntax.specs.Scopes.{ScopedWord}
use Rattle.cil_known.specs.Members.{StandsFor}
use Rattle.cil_names.specs.Resolves.{has_permission}
use Rattle.cil_classes.specs.Values.{in_value}

-- the class permission gives the permission of the class: a list on a class gives the permissions of its expression
pub data HasPair (xs : List Item) (s : OptSet) : Term ScopedWord → Symbol → List ℕ → Type 0 where
  of_class : (at : Spot) (word : ScopedWord) (expression : Term ScopedWord) (c : Symbol) (p : List ℕ) → StandsFor xs s kinds.Class word c
      → in_value (has_permission xs c) expression p ≡ true
      → HasPair xs s (Form at ops.ClassPermissions (cons (Leaf word) (cons expression nil))) c p
