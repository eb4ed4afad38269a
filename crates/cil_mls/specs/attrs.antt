-- What crates above take of cil_attrs.
pub use Rattle.cil_attrs.specs.Members
pub use Rattle.cil_attrs.specs.Plain
pub use Rattle.cil_attrs.specs.SetFaults
pub use Rattle.cil_attrs.specs.Targets
pub use Rattle.cil_attrs.specs.Givers
pub use Rattle.cil_attrs.specs.Holding
pub use Rattle.cil_attrs.specs.NameSpaces
