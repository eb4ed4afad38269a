-- What crates above take of the lemmas of cil_avc.
pub use Rattle.cil_host.proofs.avc_lemmas.TrueCache
