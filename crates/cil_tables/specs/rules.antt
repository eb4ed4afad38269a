-- What crates above take of cil_rules.
pub use Rattle.cil_neverallow.specs.rules.Covered
pub use Rattle.cil_neverallow.specs.rules.Covers
pub use Rattle.cil_neverallow.specs.rules.Rule
