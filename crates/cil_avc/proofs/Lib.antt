mod CacheLemmas
mod Keys
pub mod TrueCache
pub mod neverallow_lemmas
pub mod decide_lemmas
