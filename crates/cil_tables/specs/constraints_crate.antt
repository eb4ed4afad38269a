-- What crates above take of cil_constraints.
pub use Rattle.cil_constraints.specs.Contexts
pub use Rattle.cil_constraints.specs.Permitted
pub use Rattle.cil_constraints.specs.declared.expr.Context
pub use Rattle.cil_constraints.specs.declared.mask.Constraint
