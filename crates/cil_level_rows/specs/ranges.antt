-- What crates above take of cil_ranges.
pub use Rattle.cil_ranges.specs.Levels
pub use Rattle.cil_ranges.specs.Steps
