-- Which permissions of which classes class permissions and the permissions of class maps give. CIL Reference Guide, "Class and
-- Permission Statements": classmapping, classpermission, classpermissionset.
use Rattle.std.specs.Prelude.{◌≡◌, ℕ, true, List}
use Rattle.cil_faults.specs.declared.spot.Spot.{Spot}
use Rattle.cil_syntax.specs.declared.kind.Keyword.TheVariants as keywords
use Rattle.cil_syntax.specs.declared.kind.Kind.TheVariants as kinds
use Rattle.cil_syntax.specs.declared.term.Op.TheVariants as ops
use Rattle.cil_syntax.specs.Scopes.{ScopedWord}
use Rattle.cil_syntax.specs.Terms.{Term, Leaf, Form, nil, cons}
use Rattle.cil_macros.specs.Item.{Item, OptSet}
use Rattle.cil_names.specs.Declarations.{Symbol}
use Rattle.cil_known.specs.Members.{StandsFor}
use Rattle.cil_names.specs.Resolves.{has_permission}
use Rattle.cil_known.specs.Says.{Says}
use Rattle.cil_classes.specs.Values.{in_value}

-- what statements give permissions to: a class permission, or a permission of a class map
pub data Holder : Type 0 where
  named : Symbol → Holder
  mapped : Symbol → List ℕ → Holder

module _ (xs : List Item) (s : OptSet) where
  -- an enabled statement gives the holder what this class permission gives
  pub data IsGiven : Holder → Term ScopedWord → Type 0 where
    by_set : (word : ScopedWord) (cp : Term ScopedWord) (n : Symbol) → Says xs s keywords.ClassPermissionSet (cons (Leaf word) (cons cp nil))
        → StandsFor xs s kinds.ClassPermission word n → IsGiven (named n) cp
    by_mapping : (word permission : ScopedWord) (cp : Term ScopedWord) (m : Symbol) → Says xs s keywords.ClassMapping (cons (Leaf word) (cons (Leaf permission) (cons cp nil)))
        → StandsFor xs s kinds.ClassMap word m → IsGiven (mapped m permission.bytes) cp

  -- the class permission gives the permission of the class: a list on a class gives the permissions of its expression, a list on
  -- a class map what is given to the map's permissions of its expression, and a name what is given to the class permission of this name
  pub data HasPair : Term ScopedWord → Symbol → List ℕ → Type 0 where
    of_class : (at : Spot) (word : ScopedWord) (expression : Term ScopedWord) (c : Symbol) (p : List ℕ) → StandsFor xs s kinds.Class word c
        → in_value (has_permission xs c) expression p ≡ true
        → HasPair (Form at ops.ClassPermissions (cons (Leaf word) (cons expression nil))) c p
    of_map : (at : Spot) (word : ScopedWord) (expression given : Term ScopedWord) (m c : Symbol) (r p : List ℕ) → StandsFor xs s kinds.ClassMap word m
        → in_value (has_permission xs m) expression r ≡ true → IsGiven (mapped m r) given → HasPair given c p
        → HasPair (Form at ops.ClassPermissions (cons (Leaf word) (cons expression nil))) c p
    of_name : (word : ScopedWord) (given : Term ScopedWord) (n c : Symbol) (p : List ℕ) → StandsFor xs s kinds.ClassPermission word n → IsGiven (named n) given
        → HasPair given c p → HasPair (Leaf word) c p
