pub mod StartSets
