-- What crates above take of cil_optionals.
pub use Rattle.cil_host.specs.optionals.WhyLine
