-- What crates above take of cil_host.
pub use Rattle.cil_host.specs.Machine
pub use Rattle.cil_host.specs.Refusal
pub use Rattle.cil_host.specs.declared.fault.QueryFault
pub use Rattle.cil_host.specs.declared.host.Loaded
