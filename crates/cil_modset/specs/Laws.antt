-- Laws that fix the definitions: what they say together of every set and of all bytes.
use Rattle.std.specs.Prelude.{◌≡◌, ℕ, ◌<◌, ◌⊎◌, List, length, count_by}
use Rattle.std.specs.Ordering.{is_lt}
use Rattle.cil_base.specs.Lists.{text_cmp}
use Rattle.cil_modset.specs.declared.error.BundleFault.{BundleFault}
use Rattle.cil_modset.specs.Bundle.{AreBytes, bundle, IsBundle}
use Rattle.cil_modset.specs.Faults.{HasFault}
use Rattle.cil_modset.specs.Modules.{AreModules, module_of}

-- two sets with one bundle are one set; that a set has one bundle is plain, since its bundle is a function of it
abbrev pub HasOneSet : Type 0
HasOneSet = (a b : List (List ℕ)) → AreModules a → AreModules b → bundle a ≡ bundle b → a ≡ b

-- no bytes are the bundle of a set and have a fault
abbrev pub NeverBoth : Type 0
NeverBoth = (bytes : List ℕ) (modules : List (List ℕ)) (fault : BundleFault) → IsBundle bytes modules → HasFault bytes fault → ⊥

-- bytes have at most one fault
abbrev pub HasOneFault : Type 0
HasOneFault = (bytes : List ℕ) (a b : BundleFault) → HasFault bytes a → HasFault bytes b → a ≡ b

-- the bytes are the bundle of some set
pub record IsSomeBundle (bytes : List ℕ) : Type 0 where
  pub modules : List (List ℕ)
  pub bundle_is : IsBundle bytes modules

-- the bytes have some fault
pub record IsFaulty (bytes : List ℕ) : Type 0 where
  pub fault : BundleFault
  pub has : HasFault bytes fault

-- all bytes are a bundle or have a fault
abbrev pub AlwaysEither : Type 0
AlwaysEither = (bytes : List ℕ) → AreBytes bytes → IsSomeBundle bytes ⊎ IsFaulty bytes

-- the number of a module is how many modules come before it in byte order
abbrev pub AreNumbered : Type 0
AreNumbered =
    (modules : List (List ℕ)) (i : ℕ) → AreModules modules → i < length modules → count_by (λ t. is_lt (text_cmp t (module_of modules i))) modules ≡ i
