pub mod Members
pub mod Rising
pub mod Known
pub mod Chunks
pub mod Walk
pub mod Rows
pub mod Seats
pub mod Shown
