pub mod Relations
pub mod Counting
