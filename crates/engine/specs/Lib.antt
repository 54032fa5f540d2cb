pub mod Blocks
pub mod Moves
pub mod Dependence
pub mod Computing
pub mod Asking
