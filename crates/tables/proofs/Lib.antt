pub mod Digits
pub mod Sizes
pub mod Gathering
pub mod Modalities
pub mod Values
