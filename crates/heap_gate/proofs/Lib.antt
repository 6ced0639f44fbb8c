mod Bare
pub mod Standing
pub mod Tokens
pub mod Preparation
pub mod Turning
pub mod Acting
pub mod Begun
pub mod Taking
pub mod SearchCount
pub mod Meeting
pub mod Ending
pub mod FreeVs
pub mod Counting
pub mod Denying
pub mod Turns
pub mod Filling
