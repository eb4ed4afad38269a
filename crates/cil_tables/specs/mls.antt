-- What crates above take of cil_mls.
pub use Rattle.cil_level_rows.specs.mls.LevelTexts
pub use Rattle.cil_level_rows.specs.mls.Categories
pub use Rattle.cil_level_rows.specs.mls.Level
