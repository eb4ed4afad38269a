pub mod SearchLemmas
pub mod SortedLists
pub mod AtPlace
pub mod NameSearches
pub mod RecordLemmas
