-- What crates above take of cil_constraints.
pub use Rattle.cil_decide.specs.constraints_crate.Context
