-- What crates above take of the lemmas of cil_decide.
pub use Rattle.cil_decide.proofs.BooleanLemmas
