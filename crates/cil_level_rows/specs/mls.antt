-- What crates above take of cil_mls.
pub use Rattle.cil_mls.specs.LevelTexts
pub use Rattle.cil_mls.specs.OrderFaults
pub use Rattle.cil_mls.specs.declared.categories.Categories
pub use Rattle.cil_mls.specs.declared.level.Level
