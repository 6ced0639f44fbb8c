pub mod Kept
mod Activation
mod Activated
pub mod Shown
mod Started
mod Gained
mod Missing
pub mod Movers
pub mod Quiet
