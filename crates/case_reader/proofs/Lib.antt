pub mod Readers
pub mod FreeSets
pub mod Knowing
pub mod Productions
pub mod Reaching
pub mod Marking
