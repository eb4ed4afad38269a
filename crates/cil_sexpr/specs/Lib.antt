pub mod Bytes
pub mod Faults
pub mod Laws
pub mod Reading
pub mod Refusal
pub mod Text
pub mod Tree
pub mod View
