-- What crates above take of cil_classes.
pub use Rattle.cil_rules.specs.classes.ClassRows
pub use Rattle.cil_rules.specs.classes.Given
pub use Rattle.cil_rules.specs.classes.Held
pub use Rattle.cil_rules.specs.classes.NodeOrder
pub use Rattle.cil_rules.specs.classes.Row
pub use Rattle.cil_rules.specs.classes.Values
pub use Rattle.cil_rules.specs.classes.Class
