-- What crates above take of cil_names.
pub use Rattle.cil_rules.specs.names.Declarations
pub use Rattle.cil_rules.specs.names.Entries
pub use Rattle.cil_rules.specs.names.Resolves
pub use Rattle.cil_rules.specs.names.Rows
pub use Rattle.cil_rules.specs.names.Symbols
pub use Rattle.cil_rules.specs.names.Entry
