pub mod BitLemmas
pub mod BooleanNumbers
pub mod ConditionLemmas
mod Examples
pub mod FindLemmas
pub mod FoundLemmas
pub mod OrderLemmas
pub mod PlaceLemmas
pub mod SettingLemmas
pub mod ValueLemmas
pub mod WalkLemmas
pub mod known_lemmas
pub mod names_lemmas
