-- What crates above take of cil_macros.
pub use Rattle.cil_known.specs.macros.Item
pub use Rattle.cil_known.specs.macros.Items
pub use Rattle.cil_known.specs.macros.blocks
