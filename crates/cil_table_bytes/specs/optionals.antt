-- What crates above take of cil_optionals.
pub use Rattle.cil_tables.specs.optionals.Certificate
pub use Rattle.cil_tables.specs.optionals.First
pub use Rattle.cil_tables.specs.optionals.Lines
pub use Rattle.cil_tables.specs.optionals.Policy
pub use Rattle.cil_tables.specs.optionals.OptionalLine
pub use Rattle.cil_tables.specs.optionals.WhyLine
pub use Rattle.cil_tables.specs.optionals.Reason
