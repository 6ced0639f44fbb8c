pub mod Words
pub mod Seen
pub mod Locks
pub mod Walk
pub mod Laws
