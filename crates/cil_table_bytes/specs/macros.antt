-- What crates above take of cil_macros.
pub use Rattle.cil_tables.specs.macros.Item
