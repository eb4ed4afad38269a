pub mod BothLemmas
pub mod RefusalLemmas
pub mod SortedFaults
