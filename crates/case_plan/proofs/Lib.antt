pub mod Scopes
pub mod Housing
pub mod Labelling
pub mod Drawing
pub mod Assembling
pub mod StateTable
pub mod KnownNodes
pub mod Directions
