pub mod ByteLoops
pub mod FewSteps
pub mod Flags
pub mod Hitting
pub mod LabelSets
pub mod Made
pub mod Modalities
