pub mod Parts
pub mod Advancing
