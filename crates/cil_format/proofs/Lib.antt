pub mod Bytes
pub mod FieldLaws
pub mod FormatLaws
pub mod Growing
pub mod Loops
pub mod Orders
pub mod OutLemmas
pub mod Rises
pub mod SortedRecords
mod WideMasks
