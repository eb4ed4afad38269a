-- What crates above take of cil_host.
pub use Rattle.cil_server.specs.host.Loaded
pub use Rattle.cil_server.specs.host.Machine
pub use Rattle.cil_server.specs.host.Refusal
