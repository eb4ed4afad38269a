-- What crates above take of cil_modset.
pub use Rattle.cil_modset.specs.Modules
