-- What crates above take of cil_format.
pub use Rattle.cil_table_bytes.specs.format.Codes
pub use Rattle.cil_table_bytes.specs.format.TableFault
