-- What crates above take of cil_sexpr.
pub use Rattle.cil_sexpr.specs.Tree
