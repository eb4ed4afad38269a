-- What crates above take of the lemmas of cil_names.
pub use Rattle.cil_names.proofs.AskedLemmas
pub use Rattle.cil_names.proofs.DeclareDecided
pub use Rattle.cil_names.proofs.ReadingLemmas
pub use Rattle.cil_names.proofs.UnresolvedLemmas
