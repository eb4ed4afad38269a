pub mod SetLemmas
