pub mod Moments
pub mod Stays
pub mod Backs
pub mod Heard
