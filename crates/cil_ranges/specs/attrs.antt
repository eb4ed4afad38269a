-- What crates above take of cil_attrs.
pub use Rattle.cil_mls.specs.attrs.Givers
pub use Rattle.cil_mls.specs.attrs.Members
pub use Rattle.cil_mls.specs.attrs.NameSpaces
pub use Rattle.cil_mls.specs.attrs.SetFaults
pub use Rattle.cil_mls.specs.attrs.Targets
