pub mod Index
pub mod Labels
pub mod LevelTable
pub mod Parts
pub mod Rows
pub mod Sound
