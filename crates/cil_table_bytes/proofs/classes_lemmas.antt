-- What crates above take of the lemmas of cil_classes.
pub use Rattle.cil_constraint_bytes.proofs.classes_lemmas.BitLemmas
