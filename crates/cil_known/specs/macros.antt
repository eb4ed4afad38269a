-- What crates above take of cil_macros.
pub use Rattle.cil_names.specs.macros.Item
pub use Rattle.cil_names.specs.macros.Items
pub use Rattle.cil_names.specs.macros.blocks
