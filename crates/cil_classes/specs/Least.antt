-- What class permissions and the permissions of class maps give is the least assignment of pairs that satisfies all enabled
-- statements, said of all assignments at once. CIL Reference Guide, "Class and Permission Statements".
use Rattle.std.specs.Prelude.{◌≡◌, ℕ, Bool, true, List}
use Rattle.cil_faults.specs.declared.spot.Spot.{Spot}
use Rattle.cil_syntax.specs.declared.kind.Kind.TheVariants as kinds
use Rattle.cil_syntax.specs.declared.term.Op.TheVariants as ops
use Rattle.cil_syntax.specs.Scopes.{ScopedWord}
use Rattle.cil_syntax.specs.Terms.{Term, Leaf, Form, nil, cons}
use Rattle.cil_macros.specs.Item.{Item, OptSet}
use Rattle.cil_names.specs.Declarations.{Symbol}
use Rattle.cil_known.specs.Members.{StandsFor}
use Rattle.cil_names.specs.Resolves.{has_permission}
use Rattle.cil_classes.specs.Values.{in_value}
use Rattle.cil_classes.specs.Given.{HasPair, Holder, IsGiven, mapped, named}

-- which permissions of which classes each holder has
abbrev pub Assignment : Type 0
Assignment = Holder → Symbol → List ℕ → Bool

module _ (xs : List Item) (s : OptSet) where
  -- what the class permission gives, where holders have these
  pub data Gives (has : Assignment) : Term ScopedWord → Symbol → List ℕ → Type 0 where
    on_class : (at : Spot) (word : ScopedWord) (expression : Term ScopedWord) (c : Symbol) (p : List ℕ) → StandsFor xs s kinds.Class word c
        → in_value (has_permission xs c) expression p ≡ true
        → Gives has (Form at ops.ClassPermissions (cons (Leaf word) (cons expression nil))) c p
    on_map : (at : Spot) (word : ScopedWord) (expression : Term ScopedWord) (m c : Symbol) (r p : List ℕ) → StandsFor xs s kinds.ClassMap word m
        → in_value (has_permission xs m) expression r ≡ true → has (mapped m r) c p ≡ true
        → Gives has (Form at ops.ClassPermissions (cons (Leaf word) (cons expression nil))) c p
    by_name : (word : ScopedWord) (n c : Symbol) (p : List ℕ) → StandsFor xs s kinds.ClassPermission word n → has (named n) c p ≡ true → Gives has (Leaf word) c p

  -- the assignment satisfies all enabled statements: each holder has what is given to it
  abbrev pub Satisfies : Assignment → Type 0
  Satisfies has = (h : Holder) (cp : Term ScopedWord) (c : Symbol) (p : List ℕ) → IsGiven xs s h cp → Gives has cp c p → has h c p ≡ true

  -- the holder has the permission: a class permission that is given to it gives it
  pub record Holds (h : Holder) (c : Symbol) (p : List ℕ) : Type 0 where
    pub given : Term ScopedWord
    pub is_given : IsGiven xs s h given
    pub gives : HasPair xs s given c p

  -- the assignment has just what is given
  abbrev pub HasWhatIsGiven : Assignment → Type 0
  HasWhatIsGiven has = (h : Holder) (c : Symbol) (p : List ℕ) → (has h c p ≡ true → Holds h c p) × (Holds h c p → has h c p ≡ true)

  -- what a class permission gives, it gives under each assignment that satisfies the statements
  abbrev pub IsWithinEach : Type 0
  IsWithinEach = (has : Assignment) → Satisfies has → (cp : Term ScopedWord) (c : Symbol) (p : List ℕ) → HasPair xs s cp c p → Gives has cp c p

  -- the assignment that has just what is given satisfies the statements, and class permissions give nothing more under it
  abbrev pub IsOneOfThem : Type 0
  IsOneOfThem =
      (has : Assignment) → HasWhatIsGiven has → Satisfies has × ((cp : Term ScopedWord) (c : Symbol) (p : List ℕ) → Gives has cp c p → HasPair xs s cp c p)

  -- so what they give is what they give under the least one
  abbrev pub IsLeast : Type 0
  IsLeast = IsWithinEach × IsOneOfThem
