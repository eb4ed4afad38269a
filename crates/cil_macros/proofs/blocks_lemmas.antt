-- What crates above take of the lemmas of cil_blocks.
pub use Rattle.cil_blocks.proofs.NamespaceLemmas
