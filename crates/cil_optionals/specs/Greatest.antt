-- Good sets of optionals, and the greatest. CIL Reference Guide, "Container Statements", "optional"; what has to resolve, and
-- in which set, is this project's profile.
use Rattle.std.specs.Prelude.{◌≡◌, ◌↔◌, ℕ, Bool, true, false, List, Some, slice_get}
use Rattle.std.specs.Option.{option_map_or}
use Rattle.cil_blocks.specs.Contents.{is_optional}
use Rattle.cil_macros.specs.Item.{Item, OptSet, innermost}
use Rattle.cil_names.specs.Resolves.{Wanted, words_of, resolves}

-- the statement of this number is an optional
abbrev pub is_optional_at : List Item → ℕ → Bool
is_optional_at xs o = option_map_or (λ x. is_optional x.keyword) (slice_get xs o) false

-- the parent of an optional: the innermost optional round it
pub record Parent (xs : List Item) (o p : ℕ) : Type 0 where
  pub optional : Item
  pub is_there : slice_get xs o ≡ Some optional
  pub inside : innermost optional ≡ Some p

-- a word of an own statement of the optional, one whose innermost optional it is: the j-th word of the i-th statement
pub record OwnWord (xs : List Item) (o i j : ℕ) (w : Wanted) : Type 0 where
  pub statement : Item
  pub is_there : slice_get xs i ≡ Some statement
  pub own : innermost statement ≡ Some o
  pub word : slice_get (words_of statement) j ≡ Some w

-- a set of optionals is good where each has its parent in the set, and all words of its own statements resolve in the set
pub record IsGood (xs : List Item) (s : OptSet) : Type 0 where
  pub optionals : (o : ℕ) → s o ≡ true → is_optional_at xs o ≡ true
  pub parents : (o p : ℕ) → s o ≡ true → Parent xs o p → s p ≡ true
  pub words : (o i j : ℕ) (w : Wanted) → s o ≡ true → OwnWord xs o i j w → resolves xs s w ≡ true

-- some good set has the optional
abbrev pub IsInGood : List Item → ℕ → Type 0
IsInGood xs o = (s : OptSet) × IsGood xs s × (s o ≡ true)

-- the greatest set: the union of all good sets
abbrev pub IsGreatest : List Item → OptSet → Type 0
IsGreatest xs g = (o : ℕ) → (g o ≡ true) ↔ IsInGood xs o

-- one set of optionals lies in another
abbrev pub LiesIn : OptSet → OptSet → Type 0
LiesIn s t = (o : ℕ) → s o ≡ true → t o ≡ true
