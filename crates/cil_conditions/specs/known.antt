-- What crates above take of cil_known.
pub use Rattle.cil_known.specs.Known
pub use Rattle.cil_known.specs.Members
pub use Rattle.cil_known.specs.Numbers
pub use Rattle.cil_known.specs.declared.known.Known as DeclaredKnown
