pub mod Ending
pub mod Given
