-- What crates above take of cil_conditions.
pub use Rattle.cil_conditions.specs.Bits
pub use Rattle.cil_conditions.specs.Conditions
pub use Rattle.cil_conditions.specs.Spelled
