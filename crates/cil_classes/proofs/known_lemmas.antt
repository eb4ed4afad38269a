-- What crates above take of the lemmas of cil_known.
pub use Rattle.cil_known.proofs.BehindLemmas
pub use Rattle.cil_known.proofs.StandingLemmas
