pub mod RisingLemmas
pub mod UpToLemmas
