-- What crates above take of the lemmas of cil_neverallow.
pub use Rattle.cil_decide.proofs.neverallow_lemmas.MeetLemmas
