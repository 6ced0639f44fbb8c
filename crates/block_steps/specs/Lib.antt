pub mod Claims
pub mod Blocks
pub mod Searches
pub mod Laws
