-- What crates above take of the lemmas of cil_macros.
pub use Rattle.cil_names.proofs.macros_lemmas.FormLemmas
pub use Rattle.cil_names.proofs.macros_lemmas.ItemLemmas
pub use Rattle.cil_names.proofs.macros_lemmas.ItemsThere
pub use Rattle.cil_names.proofs.macros_lemmas.SaidTerms
