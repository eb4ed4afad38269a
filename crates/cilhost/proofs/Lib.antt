pub mod ArgumentLemmas
pub mod CheckLemmas
pub mod CompileLemmas
pub mod DecideLemmas
pub mod FoundLemmas
pub mod LocateLemmas
pub mod QueryLemmas
pub mod ReadingLemmas
