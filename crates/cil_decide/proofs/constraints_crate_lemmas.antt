-- What crates above take of the lemmas of cil_constraints.
pub use Rattle.cil_tables.proofs.constraints_crate_lemmas.ContextPartialEq
