-- What crates above take of cil_optionals.
pub use Rattle.cil_optionals.specs.Policy
pub use Rattle.cil_optionals.specs.Certificate
pub use Rattle.cil_optionals.specs.First
pub use Rattle.cil_optionals.specs.Lines
pub use Rattle.cil_optionals.specs.declared.lines.OptionalLine
pub use Rattle.cil_optionals.specs.declared.lines.WhyLine
pub use Rattle.cil_optionals.specs.declared.reason.Reason
