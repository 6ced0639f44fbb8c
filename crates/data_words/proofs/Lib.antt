pub mod Loading
pub mod Copying
pub mod Settled
pub mod Clearing
