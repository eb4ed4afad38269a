-- What crates above take of cil_conditions.
pub use Rattle.cil_index.specs.conditions.Bits
pub use Rattle.cil_index.specs.conditions.Conditions
pub use Rattle.cil_index.specs.conditions.Numbered
pub use Rattle.cil_index.specs.conditions.Spelled
pub use Rattle.cil_index.specs.conditions.Branch
pub use Rattle.cil_index.specs.conditions.Token
