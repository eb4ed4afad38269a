pub mod BitLemmas
pub mod CheckLemmas
mod Examples
mod LawLemmas
mod PathLemmas
pub mod PlainLemmas
pub mod ReachLemmas
mod RowLemmas
mod SpreadLemmas
mod StartLemmas
mod StepLemmas
mod WalkLemmas
