-- What crates above take of cil_conditions.
pub use Rattle.cil_neverallow.specs.conditions.Bits
pub use Rattle.cil_neverallow.specs.conditions.Conditions
pub use Rattle.cil_neverallow.specs.conditions.Spelled
