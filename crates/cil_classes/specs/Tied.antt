-- What class permissions give, by numbers: of which class permissions and permissions of class maps which nodes stand, and what is
-- given to each. No other crate needs these words.
use Rattle.std.specs.Prelude.{◌≡◌, ◌↔◌, ℕ, true, List, Contains, IsBitSet}
use Rattle.cil_faults.specs.declared.spot.Spot.{Spot}
use Rattle.cil_syntax.specs.declared.kind.Kind.TheVariants as kinds
use Rattle.cil_syntax.specs.declared.term.Op.TheVariants as ops
use Rattle.cil_syntax.specs.Scopes.{ScopedWord}
use Rattle.cil_syntax.specs.Terms.{Term, Leaf, Form, nil, cons}
use Rattle.cil_macros.specs.Item.{Item, OptSet}
use Rattle.cil_names.specs.Declarations.{Symbol}
use Rattle.cil_known.specs.Members.{StandsFor}
use Rattle.cil_names.specs.Resolves.{has_permission}
use Rattle.cil_classes.specs.declared.assigned.Given.{Given}
use Rattle.cil_classes.specs.declared.assigned.Part.{Part}
use Rattle.cil_classes.specs.Assigned.{Has}
use Rattle.cil_classes.specs.Given.{Holder, IsGiven, mapped, named}
use Rattle.cil_classes.specs.Least.{Holds}
use Rattle.cil_classes.specs.Values.{in_value}

module _ (xs : List Item) (s : OptSet) where
  -- the class permission is a list on the class, and its expression has the permission
  pub data Direct : Term ScopedWord → Symbol → List ℕ → Type 0 where
    direct : (at : Spot) (word : ScopedWord) (expression : Term ScopedWord) (c : Symbol) (p : List ℕ) → StandsFor xs s kinds.Class word c
        → in_value (has_permission xs c) expression p ≡ true
        → Direct (Form at ops.ClassPermissions (cons (Leaf word) (cons expression nil))) c p

  -- the class permission gives all that is given to the holder
  pub data Leads : Term ScopedWord → Holder → Type 0 where
    to_mapped : (at : Spot) (word : ScopedWord) (expression : Term ScopedWord) (m : Symbol) (r : List ℕ) → StandsFor xs s kinds.ClassMap word m
        → in_value (has_permission xs m) expression r ≡ true
        → Leads (Form at ops.ClassPermissions (cons (Leaf word) (cons expression nil))) (mapped m r)
    to_named : (word : ScopedWord) (n : Symbol) → StandsFor xs s kinds.ClassPermission word n → Leads (Leaf word) (named n)

  -- the class map has the permission that the holder is
  abbrev pub IsThere : Holder → Type 0
  IsThere (named n) = Unit {0}
  IsThere (mapped m r) = has_permission xs m r ≡ true

  -- which holder a node stands for, and which permission of which class a bit of a class number
  module _ (node : ℕ → Holder → Type 0) (bit_of : (class_ bit : ℕ) → Symbol → List ℕ → Type 0) where
    -- the class permission gives this, by numbers
    pub record IsPart (g : Part) (cp : Term ScopedWord) : Type 0 where
      pub bits : (class_ bit : ℕ) (c : Symbol) (p : List ℕ) → bit_of class_ bit c p → Direct cp c p ↔ ((g.class ≡ class_) × IsBitSet g.mask bit)
      pub has_bit : (c : Symbol) (p : List ℕ) → Direct cp c p → (bit : ℕ) × bit_of g.class bit c p
      pub of_bit : (bit : ℕ) → IsBitSet g.mask bit → (c : Symbol) × (p : List ℕ) × bit_of g.class bit c p
      pub leads : (v : ℕ) (h : Holder) → node v h → Leads cp h ↔ Contains g.from.items v
      pub are_nodes : (v : ℕ) → Contains g.from.items v → (h : Holder) × node v h

    -- the enabled statements, by numbers. A holder that is given something has one node
    pub record AreGivens (givens : List Given) : Type 0 where
      pub each : (h : Holder) (cp : Term ScopedWord) → IsGiven xs s h cp → IsThere h → (g : Given) × Contains givens g × node g.to h × IsPart g.part cp
      pub only : (g : Given) → Contains givens g → (h : Holder) × (cp : Term ScopedWord) × IsGiven xs s h cp × node g.to h × IsPart g.part cp
      pub there : (v : ℕ) (h : Holder) → node v h → IsThere h
      pub one_node : (v u : ℕ) (h : Holder) → node v h → node u h → v ≡ u
      pub one_holder : (v : ℕ) (h k : Holder) → node v h → node v k → h ≡ k

    -- a node has just the bits of the permissions that its holder has
    abbrev pub AreExact : List Given → Type 0
    AreExact givens =
        (v class_ bit : ℕ) (h : Holder) (c : Symbol) (p : List ℕ) → node v h → bit_of class_ bit c p → Has givens class_ v bit ↔ Holds xs s h c p
