pub mod Looks
pub mod NoLiveBlock
pub mod Denials
