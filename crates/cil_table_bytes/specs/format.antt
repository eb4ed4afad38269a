-- What crates above take of cil_format.
pub use Rattle.cil_format.specs.Codes
pub use Rattle.cil_format.specs.declared.fault.TableFault
