-- What crates above take of cil_constraints.
pub use Rattle.cil_tables.specs.constraints_crate.Context
