-- What crates above take of cil_tables.
pub use Rattle.cil_server.specs.tables.CompileRefusal
