-- What crates above take of the lemmas of cil_mls.
pub use Rattle.cil_mls.proofs.PartLemmas
pub use Rattle.cil_mls.specs.contracts.categories.CategoriesPartialEq
pub use Rattle.cil_mls.specs.contracts.level.LevelPartialEq
