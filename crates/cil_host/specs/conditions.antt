-- What crates above take of cil_conditions.
pub use Rattle.cil_avc.specs.conditions.Bits
