pub mod BehindLemmas
pub mod FamilyLemmas
pub mod LeafLemmas
mod MemberExamples
pub mod MemberLemmas
pub mod NumberLemmas
pub mod Qualified
pub mod SpelledLemmas
pub mod StandLemmas
pub mod StandingLemmas
pub mod macros_lemmas
pub mod names_lemmas
