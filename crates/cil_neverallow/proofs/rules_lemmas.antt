-- What crates above take of the lemmas of cil_rules.
pub use Rattle.cil_index.proofs.rules_lemmas.BehindLemmas
pub use Rattle.cil_index.proofs.rules_lemmas.RuleLemmas
