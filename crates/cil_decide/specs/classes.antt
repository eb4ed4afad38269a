-- What crates above take of cil_classes.
pub use Rattle.cil_tables.specs.classes.Class
pub use Rattle.cil_tables.specs.classes.ClassId
