-- What crates above take of the lemmas of cil_levels.
pub use Rattle.cil_levels.proofs.BegunLemmas
pub use Rattle.cil_levels.proofs.PlaceLemmas
