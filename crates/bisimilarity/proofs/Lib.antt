pub mod Sets
pub mod Made
pub mod Drawing
pub mod Refining
