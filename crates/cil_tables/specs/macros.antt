-- What crates above take of cil_macros.
pub use Rattle.cil_macros.specs.Item
