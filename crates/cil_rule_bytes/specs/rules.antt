-- What crates above take of cil_rules.
pub use Rattle.cil_index.specs.rules.Rule
