-- What crates above take of the lemmas of cil_classes.
pub use Rattle.cil_tables.proofs.classes_lemmas.ClassIdPartialEq
