pub mod IndexLemmas
pub mod LabelLemmas
pub mod RowLemmas
pub mod SoundLemmas
