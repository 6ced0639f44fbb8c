pub mod Looks
pub mod Denials
pub mod Laws
