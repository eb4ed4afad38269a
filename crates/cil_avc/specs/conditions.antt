-- What crates above take of cil_conditions.
pub use Rattle.cil_decide.specs.conditions.Bits
