-- What crates above take of cil_levels.
pub use Rattle.cil_level_rows.specs.levels_crate.Held
