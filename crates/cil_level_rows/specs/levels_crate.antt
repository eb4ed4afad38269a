-- What crates above take of cil_levels.
pub use Rattle.cil_ranges.specs.levels_crate.Held
