-- What crates above take of cil_names.
pub use Rattle.cil_classes.specs.names.Declarations
pub use Rattle.cil_classes.specs.names.Entries
pub use Rattle.cil_classes.specs.names.Resolves
pub use Rattle.cil_classes.specs.names.Rows
pub use Rattle.cil_classes.specs.names.Symbols
pub use Rattle.cil_classes.specs.names.Entry
