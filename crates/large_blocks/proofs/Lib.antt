pub mod Runs
pub mod Laid
pub mod Free
pub mod Rows
pub mod Standing
pub mod Rooms
pub mod Calls
