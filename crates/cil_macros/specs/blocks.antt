-- What crates above take of cil_blocks.
pub use Rattle.cil_blocks.specs.Branches
pub use Rattle.cil_blocks.specs.Contents
pub use Rattle.cil_blocks.specs.Entries
pub use Rattle.cil_blocks.specs.Namespaces
pub use Rattle.cil_blocks.specs.Places
pub use Rattle.cil_blocks.specs.declared.namespaces.Space
