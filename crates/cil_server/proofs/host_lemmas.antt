-- What crates above take of the lemmas of cil_host.
pub use Rattle.cil_host.proofs.SettingLemmas
