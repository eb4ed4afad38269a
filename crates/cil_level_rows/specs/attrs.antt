-- What crates above take of cil_attrs.
pub use Rattle.cil_ranges.specs.attrs.Givers
pub use Rattle.cil_ranges.specs.attrs.Members
pub use Rattle.cil_ranges.specs.attrs.NameSpaces
pub use Rattle.cil_ranges.specs.attrs.SetFaults
