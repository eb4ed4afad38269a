-- What crates above take of cil_names.
pub use Rattle.cil_names.specs.Declarations
pub use Rattle.cil_names.specs.Resolves
pub use Rattle.cil_names.specs.Rows
pub use Rattle.cil_names.specs.Unresolved
pub use Rattle.cil_names.specs.Entries
pub use Rattle.cil_names.specs.Laws
pub use Rattle.cil_names.specs.Symbols
pub use Rattle.cil_names.specs.declared.entry.Entry
