-- What crates above take of cil_modset.
pub use Rattle.cil_modset.specs.Bundle
pub use Rattle.cil_modset.specs.Changes
pub use Rattle.cil_modset.specs.Laws
pub use Rattle.cil_modset.specs.Modules
pub use Rattle.cil_modset.specs.declared.error.BundleError
pub use Rattle.cil_modset.specs.declared.error.BundleFault
pub use Rattle.cil_modset.specs.declared.set.Installed
