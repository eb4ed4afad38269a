pub mod Exact
mod FieldBack
pub mod FitLemmas
mod Lists
pub mod OrderLemmas
mod RecordLemmas
mod Rows
pub mod SpelledLemmas
mod StepLemmas
pub mod WithinLemmas
pub mod classes_lemmas
