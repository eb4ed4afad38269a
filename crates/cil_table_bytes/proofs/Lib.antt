mod Failures
mod NameExact
mod NewNames
mod Orderly
mod Proper
mod Rows
pub mod TableLaws
mod WriteLemmas
pub mod classes_lemmas
pub mod tables_lemmas
