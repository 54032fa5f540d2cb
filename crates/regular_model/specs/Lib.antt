pub mod Regular
pub mod Profile
pub mod SetBytes
pub mod Judging
pub mod Values
pub mod Blocks
pub mod HeldSets
pub mod StepGroups
