pub mod CellLemmas
pub mod JudgeLemmas
pub mod RowLemmas
pub mod ScopeLemmas
pub mod WalkLemmas
