-- What the error of an import says about the bytes.
use Rattle.std.specs.Prelude.{ℕ, List}
use Rattle.cil_modset.specs.declared.error.BundleError.{BundleError}
use Rattle.cil_modset.specs.declared.error.BundleError.TheVariants.{Fault, NoMemory}
use Rattle.cil_modset.specs.Faults.{HasFault}

-- the fault is that of the bytes; out of memory says nothing about them
abbrev pub RefusesBundle : List ℕ → BundleError → Type 0
RefusesBundle bytes (Fault fault) = HasFault bytes fault
RefusesBundle bytes NoMemory = Unit {0}
