pub mod Token
pub mod Seated
pub mod Calls
pub mod Roots
pub mod Counts
pub mod Turns
