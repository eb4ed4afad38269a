-- What crates above take of the lemmas of cil_blocks.
pub use Rattle.cil_macros.proofs.blocks_lemmas.NamespaceLemmas
