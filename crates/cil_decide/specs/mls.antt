-- What crates above take of cil_mls.
pub use Rattle.cil_tables.specs.mls.Categories
pub use Rattle.cil_tables.specs.mls.Level
