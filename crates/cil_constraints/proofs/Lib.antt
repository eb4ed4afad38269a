pub mod ClassLemmas
mod Examples
pub mod MaskLemmas
pub mod OneTree
pub mod OrderLemmas
mod PushLemmas
mod Reading
mod SaidExamples
pub mod NumberTests
mod TestLemmas
pub mod TruthLemmas
mod WordLemmas
mod StepLemmas
mod DepthLemmas
mod StepLists
mod GatherLemmas
mod StatedLemmas
mod AlikeLemmas
pub mod classes_lemmas
