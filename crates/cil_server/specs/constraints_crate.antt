-- What crates above take of cil_constraints.
pub use Rattle.cil_host.specs.constraints_crate.Context
