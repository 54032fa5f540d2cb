pub mod MergedBytes
pub mod Room
