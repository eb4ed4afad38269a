pub mod AskedLemmas
pub mod LaidLemmas
pub mod ToldLemmas
