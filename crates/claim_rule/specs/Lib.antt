pub mod Places
pub mod Shown
pub mod Home
pub mod Entries
pub mod Rule
pub mod Plays
pub mod Steps
pub mod Laws
