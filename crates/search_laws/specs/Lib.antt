pub mod Reading
pub mod Laws
pub mod Calls
pub mod Falls
pub mod Activates
