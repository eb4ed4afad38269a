-- What crates above take of cil_labels.
pub use Rattle.cil_labels.specs.LevelTable
