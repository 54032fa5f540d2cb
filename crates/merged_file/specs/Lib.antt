pub mod Merged
