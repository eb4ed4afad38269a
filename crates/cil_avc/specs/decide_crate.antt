-- What crates above take of cil_decide.
pub use Rattle.cil_decide.specs.Decides
pub use Rattle.cil_decide.specs.declared.decision.Decision
