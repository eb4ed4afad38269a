pub mod Codes
pub mod Ends
pub mod Fields
pub mod Format
pub mod Takes
