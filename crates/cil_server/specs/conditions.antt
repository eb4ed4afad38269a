-- What crates above take of cil_conditions.
pub use Rattle.cil_host.specs.conditions.Bits
