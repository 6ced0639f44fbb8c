pub mod Served
pub mod Callers
pub mod Steps
