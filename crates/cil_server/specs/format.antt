-- What crates above take of cil_format.
pub use Rattle.cil_host.specs.format.Codes
pub use Rattle.cil_host.specs.format.TableFault
