pub mod Moved
pub mod Halfway
pub mod Ends
pub mod Late
