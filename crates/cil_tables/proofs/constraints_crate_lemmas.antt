-- What crates above take of the lemmas of cil_constraints.
pub use Rattle.cil_constraints.proofs.ClassLemmas
pub use Rattle.cil_constraints.specs.contracts.expr.ContextPartialEq
