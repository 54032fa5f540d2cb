pub mod Read
pub mod NodeKinds
pub mod NodeSets
pub mod StepRows
