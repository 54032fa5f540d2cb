pub mod Rounds
pub mod Stepping
pub mod WholeRule
