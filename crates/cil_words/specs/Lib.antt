pub mod Cells
pub mod Judged
pub mod Scopes
pub mod Table
pub mod Walks
