pub mod Finds
pub mod Answers
pub mod Slots
pub mod Tagged
