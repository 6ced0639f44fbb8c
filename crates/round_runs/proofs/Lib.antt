pub mod Meets
pub mod Played
pub mod Names
pub mod Going
pub mod Callers
pub mod Closed
