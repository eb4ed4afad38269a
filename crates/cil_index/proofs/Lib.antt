mod CoverLemmas
mod GatherLemmas
mod MembershipLemmas
mod IndexLemmas
mod KeyLemmas
mod LayoutLemmas
mod ListedLemmas
mod NumberLemmas
mod OrderLemmas
mod RisingLemmas
mod RunLemmas
mod SetLemmas
mod StartLemmas
pub mod classes_lemmas
pub mod rules_lemmas
pub mod names_lemmas
pub mod conditions_lemmas
