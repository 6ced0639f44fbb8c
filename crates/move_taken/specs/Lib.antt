pub mod Holds
pub mod Moved
pub mod Laws
