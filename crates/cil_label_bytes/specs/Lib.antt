pub mod Keys
pub mod Layout
pub mod Names
pub mod Sets
pub mod labels
pub mod mls
