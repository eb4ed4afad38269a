-- What crates above take of the lemmas of cil_rules.
pub use Rattle.cil_rules.proofs.BehindLemmas
pub use Rattle.cil_rules.proofs.RuleLemmas
