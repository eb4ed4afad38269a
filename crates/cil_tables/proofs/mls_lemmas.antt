-- What crates above take of the lemmas of cil_mls.
pub use Rattle.cil_level_rows.proofs.mls_lemmas.CategoriesPartialEq
pub use Rattle.cil_level_rows.proofs.mls_lemmas.LevelPartialEq
pub use Rattle.cil_level_rows.proofs.mls_lemmas.PartLemmas
