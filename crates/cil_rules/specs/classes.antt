-- What crates above take of cil_classes.
pub use Rattle.cil_classes.specs.ClassRows
pub use Rattle.cil_classes.specs.Given
pub use Rattle.cil_classes.specs.Held
pub use Rattle.cil_classes.specs.NodeOrder
pub use Rattle.cil_classes.specs.Row
pub use Rattle.cil_classes.specs.Values
pub use Rattle.cil_classes.specs.declared.row.Class
