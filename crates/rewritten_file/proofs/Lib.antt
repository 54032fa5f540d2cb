pub mod Renewed
pub mod NewFile
