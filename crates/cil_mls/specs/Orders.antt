-- The order that statements give to some items, and when they fix just one. CIL Reference Guide, "sensitivityorder" and
-- "categoryorder"; that just one order has to be fixed is this project's profile.
use Rattle.std.specs.Prelude.{◌≡◌, ◌↔◌, ℕ, suc, ◌<◌, List, Some, slice_get, Contains}

module _ {X : Type 0} (Item : X → Type 0) (Below : X → X → Type 0) where
  -- all items in a row, from the lowest to the highest: each is there once, and what is below another is before it. A row of some
  -- items and a strict order of them are the same thing
  pub record IsOrder (row : List X) : Type 0 where
    pub items : (x : X) → Contains row x ↔ Item x
    pub once : (i j : ℕ) (x : X) → slice_get row i ≡ Some x → slice_get row j ≡ Some x → i ≡ j
    pub upwards : (i j : ℕ) (x y : X) → Below x y → slice_get row i ≡ Some x → slice_get row j ≡ Some y → i < j

  -- the one order: the items have no other
  pub record IsOneOrder (row : List X) : Type 0 where
    pub is_order : IsOrder row
    pub only : (other : List X) → IsOrder other → other ≡ row

  -- of any two neighbours it is said that the first is below the second
  abbrev pub IsChain : List X → Type 0
  IsChain row = (i : ℕ) (x y : X) → slice_get row i ≡ Some x → slice_get row (suc i) ≡ Some y → Below x y
