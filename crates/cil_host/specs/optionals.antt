-- What crates above take of cil_optionals.
pub use Rattle.cil_table_bytes.specs.optionals.OptionalLine
pub use Rattle.cil_table_bytes.specs.optionals.WhyLine
