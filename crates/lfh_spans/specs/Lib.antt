pub mod Hints
pub mod Stores
pub mod Subsegments
