-- What crates above take of cil_classes.
pub use Rattle.cil_classes.specs.Row
pub use Rattle.cil_classes.specs.declared.row.Class
pub use Rattle.cil_classes.specs.declared.row.ClassId
