pub mod Answers
pub mod Events
pub mod Hosts
pub mod Laws
pub mod Masks
pub mod Reached
pub mod Replies
pub mod Run
pub mod Steps
pub use Rattle.cil_host.specs as host
