pub mod Counting
pub mod EnumNumbers
pub mod VettingStages
