pub mod Owner
pub mod Sound
pub mod Pages
pub mod Empties
pub mod Compact
