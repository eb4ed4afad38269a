-- What crates above take of the lemmas of cil_names.
pub use Rattle.cil_rules.proofs.names_lemmas.DeclareDecided
