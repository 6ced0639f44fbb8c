pub mod Sound
pub mod Invariant
pub mod Legal
