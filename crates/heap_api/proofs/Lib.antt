pub mod Waiting
pub mod Made
pub mod Callers
