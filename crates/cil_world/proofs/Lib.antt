pub mod Agreed
pub mod EventLemmas
pub mod ExportLemmas
pub mod LawLemmas
pub mod MaskLemmas
pub mod NextLoaded
pub mod NextMoment
pub mod RunLemmas
