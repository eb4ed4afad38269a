pub mod BoolLemmas
pub mod CountLemmas
pub mod DeclareLemmas
mod Examples
pub mod FirstLawLemmas
pub mod FirstLemmas
pub mod FirstPartLemmas
pub mod GreatestLemmas
pub mod KeepLemmas
pub mod PartLemmas
pub mod PolicyLemmas
pub mod RemovalLemmas
pub mod RemovedLemmas
pub mod ShownLemmas
pub mod TimeLemmas
pub mod LineLemmas
pub mod ReasonLines
pub mod RowParts
