pub mod Moves
pub mod Holds
pub mod Ends
pub mod Carries
