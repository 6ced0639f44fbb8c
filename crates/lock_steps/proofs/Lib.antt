pub mod Locks
pub mod Data
