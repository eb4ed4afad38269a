-- What crates above take of cil_names.
pub use Rattle.cil_known.specs.names.Declarations
pub use Rattle.cil_known.specs.names.Entries
pub use Rattle.cil_known.specs.names.Laws
pub use Rattle.cil_known.specs.names.Resolves
pub use Rattle.cil_known.specs.names.Rows
pub use Rattle.cil_known.specs.names.Symbols
pub use Rattle.cil_known.specs.names.Entry
