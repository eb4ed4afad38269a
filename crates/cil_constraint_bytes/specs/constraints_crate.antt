-- What crates above take of cil_constraints.
pub use Rattle.cil_constraints.specs.declared.mask.Constraint
