-- What crates above take of cil_constraints.
pub use Rattle.cil_avc.specs.constraints_crate.Context
