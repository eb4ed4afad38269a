-- What crates above take of the lemmas of cil_avc.
pub use Rattle.cil_avc.proofs.TrueCache
