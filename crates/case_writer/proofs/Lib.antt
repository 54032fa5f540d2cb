pub mod Runs
pub mod Pairs
pub mod Packing
