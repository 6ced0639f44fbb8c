pub mod Locks
pub mod Data
pub mod Laws
