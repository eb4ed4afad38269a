-- The pass over two sorted lists that finds the texts of the second that are not in the first.
use Rattle.std.specs.Prelude.{◌≡◌, ℕ, ◌+◌, ◌<◌, ◌≤◌, ◌↔◌, List, length, Contains}
use Rattle.cil_sexpr.specs.Faults.{FaultOf}
use Rattle.cil_modset.specs.declared.error.BundleError.{BundleError}
use Rattle.cil_modset.specs.declared.error.BundleError.TheVariants as errors
use Rattle.cil_modset.specs.declared.error.BundleFault.TheVariants.{BadMagic, Short, NotRising, BadModule, Trailing}
use Rattle.cil_modset.specs.Bundle.{IsBundle}
use Rattle.cil_modset.specs.Faults.{AllBelow, IsRightUpTo, part_at}
use Rattle.cil_modset.specs.Modules.{IsBelow, IsRising, module_of}

-- of the texts that were read, those that are not ours
pub record AreNew (ours seen fresh : List (List ℕ)) : Type 0 where
  pub rising : IsRising fresh
  pub members : (text : List ℕ) → Contains fresh text ↔ (Contains seen text × (Contains ours text → ⊥))

-- this many of ours are before all texts that are after those that were read
pub record HasPassed (ours seen : List (List ℕ)) (passed : ℕ) : Type 0 where
  pub within : passed ≤ length ours
  pub below : (k : ℕ) (text : List ℕ) → k < passed → AllBelow seen text → IsBelow (module_of ours k) text

-- the bytes from one offset to another are the last module that was read, if there was one
pub record IsLast (bytes : List ℕ) (seen : List (List ℕ)) (start at : ℕ) : Type 0 where
  pub size : ℕ
  pub ends : start + size ≡ at
  pub stands : 0 < length seen → Contains seen (part_at bytes start size)
  pub above : (text : List ℕ) → (0 < length seen → IsBelow (part_at bytes start size) text) → AllBelow seen text

-- how far an import is after some modules of the bundle
pub record IsImportedUpTo (bytes : List ℕ) (ours fresh : List (List ℕ)) (index start at passed : ℕ) : Type 0 where
  pub seen : List (List ℕ)
  pub index_is : index ≡ length seen
  pub right : IsRightUpTo bytes seen at
  pub last : IsLast bytes seen start at
  pub walk : HasPassed ours seen passed
  pub new : AreNew ours seen fresh

-- the bytes are a bundle, and these are the modules of it that are not ours
pub record IsImportOf (bytes : List ℕ) (ours fresh : List (List ℕ)) : Type 0 where
  pub modules : List (List ℕ)
  pub bundle : IsBundle bytes modules
  pub new : AreNew ours modules fresh

-- what the error of a module says about its text
abbrev pub RefusesModule : ℕ → List ℕ → BundleError → Type 0
RefusesModule index text (errors.Fault (BadModule i fault)) = (i ≡ index) × FaultOf text fault.code fault.at
RefusesModule index text (errors.Fault BadMagic) = ⊥
RefusesModule index text (errors.Fault Short) = ⊥
RefusesModule index text (errors.Fault NotRising) = ⊥
RefusesModule index text (errors.Fault Trailing) = ⊥
RefusesModule index text errors.NoMemory = Unit {0}
