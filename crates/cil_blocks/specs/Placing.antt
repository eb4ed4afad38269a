-- How places are found one after another: what an opener opens, and the places of the first entries.
use Rattle.std.specs.Prelude.{◌≡◌, ◌<◌, ◌≤◌, ◌+◌, ℕ, List, [], ◌∷◌, ◌++◌, reverse, Contains, length, Option, Some, None, slice_get}
use Rattle.std.specs.Option.{option_map}
use Rattle.cil_syntax.specs.declared.kind.Keyword.{Keyword}
use Rattle.cil_syntax.specs.declared.kind.Keyword.TheVariants as keywords
use Rattle.cil_syntax.specs.Written.{Written}
use Rattle.cil_blocks.specs.declared.entry.Entry.{Entry}
use Rattle.cil_blocks.specs.declared.namespaces.Space.{Space}
use Rattle.cil_blocks.specs.declared.places.Place.{Place}
use Rattle.cil_blocks.specs.Contents.{Standing, name_of}
use Rattle.cil_blocks.specs.Entries.{standing_through, statement_at}
use Rattle.cil_blocks.specs.Namespaces.{IsNumber, space_at}
use Rattle.cil_blocks.specs.Numbers.{AreWithin}
use Rattle.cil_blocks.specs.Opens.{target_of}
use Rattle.cil_blocks.specs.Places.{ArePlaces, IsPlace, Numbered, Reached, all_numbered, numbers_of}

-- ---- places as they are kept

-- each place is reached from the top or from one that is kept before it
abbrev pub AreBehind : List Place → Type 0
AreBehind kept = (i : ℕ) (p : Place) → slice_get kept i ≡ Some p → p.outer ≤ i

-- that of the top of a module
abbrev pub global_place : Numbered
global_place = (0, 0 ∷ [])

-- each is the top or one of those kept, and each of these is reached from one before it
pub record AreChosen (kept : List Place) (which : List ℕ) : Type 0 where
  pub upto : (k : ℕ) → Contains which k → k ≤ length kept
  pub behind : AreBehind kept

-- the number is that of the namespace of one of them
abbrev pub IsSpaceAt : List Reached → ℕ → ℕ → Type 0
IsSpaceAt rs rank space = (r : Reached) × (slice_get rs rank ≡ Some r) × (space ≡ r.0)

-- the numbers of a scope that are still to come, where some of the namespaces round inherited blocks are left, the last one first
abbrev pub numbers_left : List Space → Reached → List ℕ → List ℕ
numbers_left spaces r left = numbers_of spaces (r.0, r.1, r.2 ++ reverse left)

-- ---- what is opened

-- the block that a statement inherits
abbrev pub inherited_as : List Written → Written → Keyword → Option Written
inherited_as ws w keywords.BlockInherit = target_of ws w
inherited_as ws w k = None

abbrev pub inherited_of : List Written → Written → Option Written
inherited_of ws w = inherited_as ws w w.statement.keyword

-- the number is that of the block that a statement inherits
abbrev pub IsInherited : List Written → ℕ → Option ℕ → Type 0
IsInherited ws number o = option_map (statement_at ws) o ≡ inherited_of ws (statement_at ws number)

-- the place is that of all that is opened by what has another place, in one of these two ways
abbrev pub IsPlaceThrough : List Space → List Space → Numbered → Written → Option Written → Numbered → Type 0
IsPlaceThrough old new outer opener inherited place =
    (s : Standing) (w : Written) → s.statement ≡ opener → IsPlace old s.space s.scope outer
    → IsPlace new (standing_through s inherited w).space (standing_through s inherited w).scope place

-- the namespace of what a statement opens in a namespace, and that in which the inherited block is written
abbrev pub IsThrough : List Space → List Space → ℕ → Written → Option Written → ℕ → Option ℕ → Type 0
IsThrough old new outer opener None space written = (written ≡ None) × IsNumber new (name_of opener ∷ space_at old outer) space
IsThrough old new outer opener (Some b) space written = (space ≡ outer) × ((n : ℕ) × (written ≡ Some n) × IsNumber new b.context.space n)

abbrev pub IsInside : List Written → List Space → List Space → ℕ → ℕ → ℕ → Option ℕ → Type 0
IsInside ws old new outer number space written =
    IsThrough old new outer (statement_at ws number) (inherited_of ws (statement_at ws number)) space written

-- ---- entries

-- the entry of this rank is the one before another one, and was opened by this one too, which stands before both
pub record IsRepeated (es : List Entry) (rank opener before : ℕ) : Type 0 where
  pub entry : Entry
  pub last : rank ≡ before + 1
  pub is : slice_get es before ≡ Some entry
  pub alike : entry.opener ≡ Some opener
  pub earlier : opener < before

-- the places of the first entries
pub record AreFirstPlaces (ws : List Written) (es : List Entry) (spaces : List Space) (ps : List Numbered) : Type 0 where
  pub as_many : length ps ≡ length es
  pub so : ArePlaces ws es spaces ps

-- the same of places as they are reached
pub record AreFirstReached (ws : List Written) (es : List Entry) (spaces : List Space) (rs : List Reached) : Type 0 where
  pub places : AreFirstPlaces ws es spaces (all_numbered spaces rs)
  pub within : (i : ℕ) (r : Reached) → slice_get rs i ≡ Some r → AreWithin spaces r.2
