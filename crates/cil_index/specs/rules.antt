-- What crates above take of cil_rules.
pub use Rattle.cil_rules.specs.Behind
pub use Rattle.cil_rules.specs.Covered
pub use Rattle.cil_rules.specs.CoveredBy
pub use Rattle.cil_rules.specs.Covers
pub use Rattle.cil_rules.specs.ForNames
pub use Rattle.cil_rules.specs.Kept
pub use Rattle.cil_rules.specs.Order
pub use Rattle.cil_rules.specs.Records
pub use Rattle.cil_rules.specs.Rule
pub use Rattle.cil_rules.specs.declared.rule.NamedRule
pub use Rattle.cil_rules.specs.declared.rule.Reach
