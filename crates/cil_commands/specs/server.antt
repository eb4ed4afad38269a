-- What crates above take of cil_server.
pub use Rattle.cil_server.specs.Devices
pub use Rattle.cil_server.specs.Load
pub use Rattle.cil_server.specs.Replies
pub use Rattle.cil_server.specs.Session
pub use Rattle.cil_server.specs.declared.loading.LoadEnd
pub use Rattle.cil_server.specs.declared.served.Served
