-- What crates above take of cil_known.
pub use Rattle.cil_rules.specs.known.Known
pub use Rattle.cil_rules.specs.known.Members
pub use Rattle.cil_rules.specs.known.Numbers
pub use Rattle.cil_rules.specs.known.DeclaredKnown
