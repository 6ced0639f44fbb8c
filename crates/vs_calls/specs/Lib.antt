pub mod Blocks
pub mod Tries
pub mod Parts
