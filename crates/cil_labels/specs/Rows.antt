-- Rows of an index: a name that can be written, and the place for which it stands. No other crate needs these words.
use Rattle.std.specs.Prelude.{◌≡◌, ◌↔◌, ◌⊎◌, ◌<◌, ℕ, List, Contains, Some, slice_get}
use Rattle.std.specs.declared.cmp.Ordering.{Ordering}
use Rattle.std.specs.Ordering.{nat_cmp, on, then_cmp}
use Rattle.cil_base.specs.Lists.{text_cmp}
use Rattle.cil_mls.specs.declared.named.Named.{Named}
use Rattle.cil_mls.specs.Names.{name_of}
use Rattle.cil_labels.specs.LevelTable.{IsWritable, NamesPlace}

-- the byte order of names, and the order of places where names are equal
abbrev pub row_cmp : Named → Named → Ordering
row_cmp = then_cmp (on name_of text_cmp) (on (λ r. r.place) nat_cmp)

-- the row is what one of these names, or an alias, stands for
abbrev pub IsRow : List (List ℕ) → List Named → Named → Type 0
IsRow names aliases r = NamesPlace names aliases r.name r.place

-- the row is that of this name at this place, which can be written
pub record IsRowOf (text : List ℕ) (n : ℕ) (r : Named) : Type 0 where
  pub writable : IsWritable r.name
  pub named : r.name ≡ text
  pub placed : r.place ≡ n

-- that of the name at this place
pub record IsNameRow (names : List (List ℕ)) (i : ℕ) (r : Named) : Type 0 where
  pub writable : IsWritable r.name
  pub at : slice_get names i ≡ Some r.name
  pub placed : r.place ≡ i

-- that of the alias with this number
pub record IsAliasRow (aliases : List Named) (i : ℕ) (r : Named) : Type 0 where
  pub writable : IsWritable r.name
  pub at : slice_get aliases i ≡ Some r

-- that of a number below this one
abbrev pub IsBelow : (ℕ → Named → Type 0) → ℕ → Named → Type 0
IsBelow At end r = (i : ℕ) × (i < end) × At i r

-- such rows came to those that were there
abbrev pub Gains : (Named → Type 0) → (old new : List Named) → Type 0
Gains P old new = (r : Named) → Contains new r ↔ (Contains old r ⊎ P r)
