-- What crates above take of the lemmas of cil_classes.
pub use Rattle.cil_classes.proofs.BitLemmas
pub use Rattle.cil_classes.specs.contracts.row.ClassIdPartialEq
