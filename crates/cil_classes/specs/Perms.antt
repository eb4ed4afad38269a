-- What a class permission gives, as masks: one for each class of which it gives permissions, classes rising. This project's profile.
use Rattle.std.specs.Prelude.{◌≡◌, ◌↔◌, ◌++◌, ℕ, List, Contains, IsBitSet, Some, slice_get}
use Rattle.std.specs.Ordering.{nat_cmp, on}
use Rattle.std.specs.List.Sorted.{IsStrictlySortedBy}
use Rattle.cil_syntax.specs.Scopes.{ScopedWord}
use Rattle.cil_syntax.specs.Terms.{Term}
use Rattle.cil_macros.specs.Item.{Item, OptSet}
use Rattle.cil_names.specs.Declarations.{Symbol, name_of}
use Rattle.cil_classes.specs.Given.{HasPair}
use Rattle.cil_classes.specs.declared.row.Class.{Class}
use Rattle.cil_classes.specs.declared.row.ClassId.{ClassId}

-- the mask is that of a class of which the class permission gives permissions: it has a bit for just these
pub record IsMaskOfClass (xs : List Item) (s : OptSet) (rows : List Class) (t : Term ScopedWord) (m : ClassId × ℕ) : Type 0 where
  pub symbol : Symbol
  pub row : Class
  pub is_row : slice_get rows m.0.number ≡ Some row
  pub named : row.name ≡ name_of symbol
  pub some : (p : List ℕ) × HasPair xs s t symbol p
  pub bits : (bit : ℕ) → IsBitSet m.1 bit ↔ ((p : List ℕ) × (slice_get row.permissions bit ≡ Some p) × HasPair xs s t symbol p)

-- one of the masks is that of the class
pub record IsAmong (rows : List Class) (masks : List (ClassId × ℕ)) (c : Symbol) : Type 0 where
  pub mask : ClassId × ℕ
  pub row : Class
  pub there : Contains masks mask
  pub is_row : slice_get rows mask.0.number ≡ Some row
  pub named : row.name ≡ name_of c

-- one mask for each class of which the class permission gives permissions, classes rising
pub record AreMasksOf (xs : List Item) (s : OptSet) (rows : List Class) (t : Term ScopedWord) (masks : List (ClassId × ℕ)) : Type 0 where
  pub rising : IsStrictlySortedBy (on (λ m. m.0.number) nat_cmp) masks
  pub each : (m : ClassId × ℕ) → Contains masks m → IsMaskOfClass xs s rows t m
  pub all : (c : Symbol) (p : List ℕ) → HasPair xs s t c p → IsAmong rows masks c

-- they were put behind others
pub record AreAdded (xs : List Item) (s : OptSet) (rows : List Class) (t : Term ScopedWord) (old new : List (ClassId × ℕ)) : Type 0 where
  pub masks : List (ClassId × ℕ)
  pub are : AreMasksOf xs s rows t masks
  pub behind : new ≡ old ++ masks
