-- What crates above take of the lemmas of cil_neverallow.
pub use Rattle.cil_neverallow.proofs.MeetLemmas
