pub mod Moves
pub mod Search
pub mod Blocks
pub mod Stays
pub mod Laws
