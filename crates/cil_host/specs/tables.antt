-- What crates above take of cil_tables.
pub use Rattle.cil_table_bytes.specs.tables.Agrees
pub use Rattle.cil_table_bytes.specs.tables.CompileAnswer
pub use Rattle.cil_table_bytes.specs.tables.CompileRefusal
pub use Rattle.cil_table_bytes.specs.tables.Laws
pub use Rattle.cil_table_bytes.specs.tables.Meaning
pub use Rattle.cil_table_bytes.specs.tables.Table
