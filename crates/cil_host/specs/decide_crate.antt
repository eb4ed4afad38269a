-- What crates above take of cil_decide.
pub use Rattle.cil_avc.specs.decide_crate.Decides
pub use Rattle.cil_avc.specs.decide_crate.Decision
