-- What crates above take of cil_table_bytes.
pub use Rattle.cil_table_bytes.specs.Layout
