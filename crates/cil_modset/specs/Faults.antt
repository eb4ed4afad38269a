-- What is wrong with bytes that are no bundle: the first thing from the left. Each fault is told by what
-- stands at places of the bytes, and says that all before it is right; so no bytes have two.
use Rattle.std.specs.Prelude.{◌≡◌, ◌≢◌, ℕ, ◌+◌, ◌<◌, ◌≤◌, ◌⊎◌, List, [], ◌∷◌, length, take, drop, slice_index, Contains}
use Rattle.std.specs.Int.{w64, from_be_bytes}
use Rattle.cil_sexpr.specs.Faults.{FaultOf}
use Rattle.cil_modset.specs.declared.error.BundleFault.{BundleFault}
use Rattle.cil_modset.specs.declared.error.BundleFault.TheVariants.{BadMagic, Short, NotRising, BadModule, Trailing}
use Rattle.cil_modset.specs.Bundle.{magic}
use Rattle.cil_modset.specs.Modules.{IsBelow, AreModules}

-- the number that eight bytes from a place on spell, the highest byte first
abbrev pub number_at : List ℕ → ℕ → ℕ
number_at bytes at = from_be_bytes w64 (drop at bytes)

-- so many bytes from a place on
abbrev pub part_at : List ℕ → ℕ → ℕ → List ℕ
part_at bytes at size = take size (drop at bytes)

-- the bytes of the header: five of magic, and eight of the count
abbrev pub header_size : ℕ
header_size = 13

-- how many modules the header promises
abbrev pub promised : List ℕ → ℕ
promised bytes = number_at bytes 5

-- those of the first five bytes that are there are right
abbrev pub HasMagic : List ℕ → Type 0
HasMagic bytes = (k : ℕ) → k < 5 → k < length bytes → slice_index bytes k ≡ slice_index magic k

-- the whole header is there and right
pub record HasHeader (bytes : List ℕ) : Type 0 where
  pub within : header_size ≤ length bytes
  pub magic_is : HasMagic bytes

-- at a place stands the whole of this module
pub record HasModule (bytes : List ℕ) (at : ℕ) (text : List ℕ) : Type 0 where
  pub within : at + 8 + length text ≤ length bytes
  pub size : number_at bytes at ≡ length text
  pub text_is : text ≡ part_at bytes (at + 8) (length text)

-- from one place up to another stand these modules, one behind the other
abbrev pub HasModules : List ℕ → ℕ → List (List ℕ) → ℕ → Type 0
HasModules bytes from [] to = from ≡ to
HasModules bytes from (text ∷ texts) to =
    HasModule bytes from text × HasModules bytes (from + 8 + length text) texts to

-- the bytes end before the module does that should stand at a place
abbrev pub IsCut : List ℕ → ℕ → Type 0
IsCut bytes at = (length bytes < at + 8) ⊎ (length bytes < at + 8 + number_at bytes at)

-- up to a place all is right: the header, and modules that read and rise, no more than it promises
pub record IsRightUpTo (bytes : List ℕ) (modules : List (List ℕ)) (at : ℕ) : Type 0 where
  pub header : HasHeader bytes
  pub stand : HasModules bytes header_size modules at
  pub readable : AreModules modules
  pub within : at ≤ length bytes
  pub promise : length modules ≤ promised bytes

-- a text comes behind each of these
abbrev pub AllBelow : List (List ℕ) → List ℕ → Type 0
AllBelow modules text = (earlier : List ℕ) → Contains modules earlier → IsBelow earlier text

-- a text does not come behind one of these
pub record IsNotAbove (modules : List (List ℕ)) (text : List ℕ) : Type 0 where
  pub earlier : List ℕ
  pub stands : Contains modules earlier
  pub falls : IsBelow earlier text → ⊥

-- what is wrong with the header
abbrev pub HasHeaderFault : List ℕ → BundleFault → Type 0
HasHeaderFault bytes BadMagic = (k : ℕ) × (k < 5) × (k < length bytes) × (slice_index bytes k ≢ slice_index magic k)
HasHeaderFault bytes Short = HasMagic bytes × (length bytes < header_size)
HasHeaderFault bytes NotRising = ⊥
HasHeaderFault bytes (BadModule index fault) = ⊥
HasHeaderFault bytes Trailing = ⊥

-- what is wrong behind these modules, which end at a place: the next one is cut, or it does not rise, or it
-- does not read; or it is none, and bytes follow
abbrev pub HasFaultBehind : List ℕ → List (List ℕ) → ℕ → BundleFault → Type 0
HasFaultBehind bytes modules at BadMagic = ⊥
HasFaultBehind bytes modules at Short = (length modules < promised bytes) × IsCut bytes at
HasFaultBehind bytes modules at NotRising =
    (length modules < promised bytes) × (text : List ℕ) × HasModule bytes at text × IsNotAbove modules text
HasFaultBehind bytes modules at (BadModule index fault) =
    (length modules < promised bytes) × (text : List ℕ) × HasModule bytes at text × AllBelow modules text
    × (index ≡ length modules) × FaultOf text fault.code fault.at
HasFaultBehind bytes modules at Trailing = (length modules ≡ promised bytes) × (at < length bytes)

-- all is right up to a place, and there is this fault
pub record HasLaterFault (bytes : List ℕ) (fault : BundleFault) : Type 0 where
  pub modules : List (List ℕ)
  pub at : ℕ
  pub right : IsRightUpTo bytes modules at
  pub behind : HasFaultBehind bytes modules at fault

-- the first fault of the bytes
abbrev pub HasFault : List ℕ → BundleFault → Type 0
HasFault bytes fault = HasHeaderFault bytes fault ⊎ HasLaterFault bytes fault

-- the number of a fault
abbrev pub number_of : BundleFault → ℕ
number_of BadMagic = 11
number_of Short = 12
number_of NotRising = 13
number_of (BadModule index fault) = 14
number_of Trailing = 15
