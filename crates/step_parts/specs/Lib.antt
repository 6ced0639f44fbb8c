pub mod Starts
pub mod Seen
pub mod InHand
pub mod Claims
pub mod Laws
