-- What crates above take of cil_classes.
pub use Rattle.cil_host.specs.classes.Class
