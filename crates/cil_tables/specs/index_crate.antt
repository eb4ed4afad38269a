-- What crates above take of cil_index.
pub use Rattle.cil_neverallow.specs.index_crate.Sections
