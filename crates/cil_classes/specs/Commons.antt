-- Classes that statements join to two different commons. A class has one at most: this project's profile.
use Rattle.std.specs.Prelude.{◌≡◌, ℕ, suc, Bool, true, false, List, Contains, Option, Some, get_or, slice_get}
use Rattle.cil_base.specs.Records.{IsRecordOf}
use Rattle.cil_faults.specs.Reported.{fault_at}
use Rattle.cil_faults.specs.declared.code.FaultCode.{FaultCode}
use Rattle.cil_faults.specs.declared.code.FaultCode.TheVariants as causes
use Rattle.cil_faults.specs.declared.fault.Fault.{Fault}
use Rattle.cil_faults.specs.declared.spot.Spot.{Spot}
use Rattle.cil_syntax.specs.Scopes.{ScopedWord}
use Rattle.cil_macros.specs.Item.{Item}
use Rattle.cil_macros.specs.Items.{Kept, item_at, items_in, namespaces_in}
use Rattle.cil_names.specs.Declarations.{Symbol}
use Rattle.cil_names.specs.declared.entry.Entry.{Entry}
use Rattle.cil_names.specs.Shared.{IsPairOf, IsSharing, Pair, Shares}
use Rattle.cil_names.specs.declared.shared.Shared.{Shared}

-- the item joins a common to a class, to which items join two different commons, by what their words name. The fault is told
-- at its class word
pub record HasTwoCommons (xs : List Item) (x : Item) (f : Fault) : Type 0 where
  pub pair : Pair
  pub shares : Shares xs x pair
  pub first : Symbol
  pub second : Symbol
  pub has_first : IsSharing xs (record { class_ = pair.class_; common = first })
  pub has_second : IsSharing xs (record { class_ = pair.class_; common = second })
  pub differ : first ≡ second → ⊥
  pub told : f ≡ fault_at causes.CommonTwice shares.class_word.at x.space shares.class_word.bytes

-- ---- by the numbers of entries. No other crate needs these words

-- the pair is what the item at a place joins. It is a record, so that a contract does not write out what the item is
pub record IsJoinedAt (i : Kept) (es : List Entry) (at : ℕ) (one : Option Shared) : Type 0 where
  pub is : IsRecordOf (Shares (items_in i)) (IsPairOf (namespaces_in i) es) (item_at i at) one

-- two commons are joined to the class of this number
pub record IsTwice (shared : List Shared) (d : ℕ) : Type 0 where
  pub first : Shared
  pub second : Shared
  pub is_first : Contains shared first
  pub is_second : Contains shared second
  pub of_first : first.class ≡ d
  pub of_second : second.class ≡ d
  pub differ : first.common ≡ second.common → ⊥

-- a pair of the class and the next one
pub record IsBeside (shared : List Shared) (at d : ℕ) : Type 0 where
  pub first : Shared
  pub second : Shared
  pub here : slice_get shared at ≡ Some first
  pub next : slice_get shared (suc at) ≡ Some second
  pub of_first : first.class ≡ d
  pub of_second : second.class ≡ d

-- the flag of this number is set
abbrev pub IsFlagged : List Bool → ℕ → Type 0
IsFlagged flags d = get_or flags d false ≡ true

-- some item has the fault
abbrev pub IsToldTwice : List Item → Fault → Type 0
IsToldTwice xs f = (x : Item) × Contains xs x × HasTwoCommons xs x f

-- the fault that is told of a class: it has too many permissions, or two commons
abbrev pub cause_of : Bool → FaultCode
cause_of true = causes.ClassWide
cause_of false = causes.CommonTwice

-- the first of two words is written here, with these bytes: it is where two commons are told
pub record IsFirst (words : Option (ScopedWord × ScopedWord)) (code : FaultCode) (at : Spot) (bytes : List ℕ) : Type 0 where
  pub cause : code ≡ causes.CommonTwice
  pub first : ScopedWord
  pub second : ScopedWord
  pub are : words ≡ Some (first, second)
  pub written : at ≡ first.at
  pub spelled : bytes ≡ first.bytes
