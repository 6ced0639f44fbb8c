pub mod Kept
pub mod Effects
pub mod Sound
pub mod Counted
pub mod Steps
pub mod Standing
pub mod Laws
