-- What crates above take of the lemmas of cil_tables.
pub use Rattle.cil_tables.proofs.CompileLemmas
