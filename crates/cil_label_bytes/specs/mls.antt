-- What crates above take of cil_mls.
pub use Rattle.cil_mls.specs.declared.categories.Categories
pub use Rattle.cil_mls.specs.declared.level.Range
