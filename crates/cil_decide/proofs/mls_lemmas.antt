-- What crates above take of the lemmas of cil_mls.
pub use Rattle.cil_tables.proofs.mls_lemmas.CategoriesPartialEq
pub use Rattle.cil_tables.proofs.mls_lemmas.LevelPartialEq
