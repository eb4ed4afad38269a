-- What crates above take of cil_names.
pub use Rattle.cil_tables.specs.names.Declarations
pub use Rattle.cil_tables.specs.names.Resolves
