-- What crates above take of the lemmas of cil_conditions.
pub use Rattle.cil_rules.proofs.conditions_lemmas.ConditionLemmas
