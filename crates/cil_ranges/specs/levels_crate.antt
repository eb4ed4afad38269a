-- What crates above take of cil_levels.
pub use Rattle.cil_levels.specs.Begun
pub use Rattle.cil_levels.specs.Permitted
pub use Rattle.cil_levels.specs.Places
pub use Rattle.cil_levels.specs.Values
pub use Rattle.cil_levels.specs.Held
