-- What crates above take of cil_tables.
pub use Rattle.cil_host.specs.tables.Agrees
pub use Rattle.cil_host.specs.tables.CompileAnswer
pub use Rattle.cil_host.specs.tables.CompileRefusal
pub use Rattle.cil_host.specs.tables.Meaning
pub use Rattle.cil_host.specs.tables.Table
