pub mod Regularity
