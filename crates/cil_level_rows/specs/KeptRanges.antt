-- The ranges of users by their numbers, from those by their entries. No other crate needs these words.
use Rattle.std.specs.Prelude.{◌≡◌, ℕ, Bool, true, false, List, [], All, Option, None, Some, get_or, length, slice_get}
use Rattle.cil_syntax.specs.declared.kind.Kind.TheVariants as kinds
use Rattle.cil_names.specs.declared.entry.Entry.{Entry}
use Rattle.cil_names.specs.Symbols.{is_of}
use Rattle.cil_known.specs.declared.known.Known.{Known}
use Rattle.cil_known.specs.Known.{enabled_in}
use Rattle.cil_mls.specs.declared.level.Range.{Range}
use Rattle.cil_mls.specs.Bits.{AreWords}

-- how both levels of a range are kept
pub record AreRangeWords (r : Range) : Type 0 where
  pub low : AreWords r.low.categories.words
  pub high : AreWords r.high.categories.words

module _ (k : Known) (ranges : List (Option Range)) where
  -- the user of this number has this range
  pub record IsKeptRange (n : ℕ) (r : Range) : Type 0 where
    pub place : ℕ
    pub entry : Entry
    pub at : slice_get k.lookup.names.now place ≡ Some entry
    pub is_user : is_of (enabled_in k) kinds.User entry ≡ true
    pub number : get_or k.numbers.now place 0 ≡ n
    pub range : get_or ranges place None ≡ Some r

  -- so has each of which a range is kept
  abbrev pub AreKept : List (Option Range) → Type 0
  AreKept kept = (n : ℕ) (r : Range) → get_or kept n None ≡ Some r → IsKeptRange n r

  -- so many users have these ranges, one after another
  pub record AreAllKept (count : ℕ) (rows : List Range) : Type 0 where
    pub len : length rows ≡ count
    pub each : (n : ℕ) (r : Range) → slice_get rows n ≡ Some r → IsKeptRange n r
    pub fit : All AreRangeWords rows

  -- where levels are on; else none has one
  pub record AreKeptWhere (are_on : Bool) (count : ℕ) (rows : List Range) : Type 0 where
    pub off : are_on ≡ false → rows ≡ []
    pub on : are_on ≡ true → AreAllKept count rows
