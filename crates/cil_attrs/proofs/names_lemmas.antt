-- What crates above take of the lemmas of cil_names.
pub use Rattle.cil_known.proofs.names_lemmas.AnswerLemmas
pub use Rattle.cil_known.proofs.names_lemmas.CandidateLemmas
pub use Rattle.cil_known.proofs.names_lemmas.DeclareDecided
pub use Rattle.cil_known.proofs.names_lemmas.ReadingLemmas
