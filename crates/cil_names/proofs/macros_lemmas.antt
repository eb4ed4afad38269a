-- What crates above take of the lemmas of cil_macros.
pub use Rattle.cil_macros.proofs.FormLemmas
pub use Rattle.cil_macros.proofs.ItemLemmas
pub use Rattle.cil_macros.proofs.ItemsThere
pub use Rattle.cil_macros.proofs.SaidTerms
