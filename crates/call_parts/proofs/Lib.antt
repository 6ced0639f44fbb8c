pub mod Own
pub mod Joining
pub mod Serving
pub mod Taken
pub mod VsBlocks
pub mod Tokens
pub mod Handing
