-- What crates above take of cil_blocks.
pub use Rattle.cil_macros.specs.blocks.Contents
pub use Rattle.cil_macros.specs.blocks.Namespaces
