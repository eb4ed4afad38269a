-- What crates above take of the lemmas of cil_classes.
pub use Rattle.cil_rules.proofs.classes_lemmas.BitLemmas
pub use Rattle.cil_rules.proofs.classes_lemmas.PartLemmas
pub use Rattle.cil_rules.proofs.classes_lemmas.ValueLemmas
