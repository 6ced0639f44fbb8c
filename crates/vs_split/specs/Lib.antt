pub mod Chunks
pub mod Tiles
pub mod Table
pub mod Laws
pub mod Shown
