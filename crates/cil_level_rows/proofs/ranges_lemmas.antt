-- What crates above take of the lemmas of cil_ranges.
pub use Rattle.cil_ranges.proofs.GroundLemmas
