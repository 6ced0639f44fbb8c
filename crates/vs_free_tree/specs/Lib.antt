pub mod Gaps
pub mod Tree
pub mod Slots
pub mod Index
pub mod Kept
