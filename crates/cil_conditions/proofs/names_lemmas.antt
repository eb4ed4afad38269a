-- What crates above take of the lemmas of cil_names.
pub use Rattle.cil_known.proofs.names_lemmas.DeclareDecided
