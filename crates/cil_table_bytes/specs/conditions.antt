-- What crates above take of cil_conditions.
pub use Rattle.cil_rule_bytes.specs.conditions_crate.Bits
pub use Rattle.cil_rule_bytes.specs.conditions_crate.Conditions
pub use Rattle.cil_rule_bytes.specs.conditions_crate.Spelled
