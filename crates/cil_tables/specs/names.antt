-- What crates above take of cil_names.
pub use Rattle.cil_names.specs.Declarations
pub use Rattle.cil_names.specs.Resolves
