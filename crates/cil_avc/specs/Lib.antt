pub mod Cache
pub mod Hashed
pub mod decide_crate
pub mod conditions
pub mod constraints_crate
pub mod classes
