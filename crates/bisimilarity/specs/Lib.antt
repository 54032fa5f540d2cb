pub mod Successors
pub mod Graphs
pub mod Relations
