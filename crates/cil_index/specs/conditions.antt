-- What crates above take of cil_conditions.
pub use Rattle.cil_rules.specs.conditions.Active
pub use Rattle.cil_rules.specs.conditions.Bits
pub use Rattle.cil_rules.specs.conditions.Order
pub use Rattle.cil_rules.specs.conditions.Branch
pub use Rattle.cil_rules.specs.conditions.Conditions
pub use Rattle.cil_rules.specs.conditions.Numbered
pub use Rattle.cil_rules.specs.conditions.Spelled
pub use Rattle.cil_rules.specs.conditions.Token
