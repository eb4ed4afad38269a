-- What crates above take of cil_tables.
pub use Rattle.cil_tables.specs.Agrees
pub use Rattle.cil_tables.specs.Booleans
pub use Rattle.cil_tables.specs.CompileAnswer
pub use Rattle.cil_tables.specs.CompileRefusal
pub use Rattle.cil_tables.specs.Laws
pub use Rattle.cil_tables.specs.Meaning
pub use Rattle.cil_tables.specs.Named
pub use Rattle.cil_tables.specs.Table
