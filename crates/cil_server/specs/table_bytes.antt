-- What crates above take of cil_table_bytes.
pub use Rattle.cil_host.specs.table_bytes.Layout
