-- What crates above take of cil_blocks.
pub use Rattle.cil_names.specs.blocks.Branches
pub use Rattle.cil_names.specs.blocks.Contents
