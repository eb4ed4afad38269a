-- What crates above take of cil_index.
pub use Rattle.cil_index.specs.Sections
