-- What crates above take of cil_labels.
pub use Rattle.cil_level_rows.specs.labels.Labels
pub use Rattle.cil_level_rows.specs.labels.LevelTable
