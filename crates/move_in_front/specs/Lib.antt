pub mod Taken
pub mod Halfway
pub mod Laws
