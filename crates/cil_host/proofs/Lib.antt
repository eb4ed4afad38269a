mod CacheLemmas
pub mod QueryLemmas
pub mod CheckLemmas
pub mod ListLemmas
pub mod PermissionLemmas
pub mod SettingLemmas
pub mod StateLemmas
pub mod neverallow_lemmas
pub mod avc_lemmas
