-- What crates above take of cil_known.
pub use Rattle.cil_conditions.specs.known.Known
pub use Rattle.cil_conditions.specs.known.Members
pub use Rattle.cil_conditions.specs.known.Numbers
pub use Rattle.cil_conditions.specs.known.DeclaredKnown
