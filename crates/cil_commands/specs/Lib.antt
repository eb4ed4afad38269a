pub mod Asked
pub mod Laid
pub mod Told
pub mod tables
pub mod host
pub mod server
