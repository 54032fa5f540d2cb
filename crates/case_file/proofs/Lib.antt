pub mod Shifts
pub mod Stages
pub mod Opening
pub mod Refusals
