-- What crates above take of cil_rules.
pub use Rattle.cil_index.specs.rules.Covered
pub use Rattle.cil_index.specs.rules.CoveredBy
pub use Rattle.cil_index.specs.rules.Covers
pub use Rattle.cil_index.specs.rules.ForNames
pub use Rattle.cil_index.specs.rules.Kept
pub use Rattle.cil_index.specs.rules.Order
pub use Rattle.cil_index.specs.rules.Records
pub use Rattle.cil_index.specs.rules.Rule
pub use Rattle.cil_index.specs.rules.NamedRule
