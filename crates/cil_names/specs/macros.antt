-- What crates above take of cil_macros.
pub use Rattle.cil_macros.specs.Item
pub use Rattle.cil_macros.specs.Items
pub use Rattle.cil_macros.specs.blocks
