-- What crates above take of cil_sexpr.
pub use Rattle.cil_sexpr.specs.Laws
pub use Rattle.cil_sexpr.specs.Text
pub use Rattle.cil_sexpr.specs.declared.fault.ReadError
