pub mod Bounds
pub mod Layout
pub mod Pushes
pub mod Spelled
pub mod Within
pub mod constraints_crate
