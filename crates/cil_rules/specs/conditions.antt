-- What crates above take of cil_conditions.
pub use Rattle.cil_conditions.specs.Active
pub use Rattle.cil_conditions.specs.Bits
pub use Rattle.cil_conditions.specs.Conditions
pub use Rattle.cil_conditions.specs.Numbered
pub use Rattle.cil_conditions.specs.Order
pub use Rattle.cil_conditions.specs.Spelled
pub use Rattle.cil_conditions.specs.declared.branch.Branch
pub use Rattle.cil_conditions.specs.declared.token.Token
