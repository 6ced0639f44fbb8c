pub mod Words
pub mod Within
pub mod Blocks
pub mod Spans
pub mod Told
pub mod Kept
pub mod Alone
