-- What crates above take of cil_tables.
pub use Rattle.cil_tables.specs.Table
