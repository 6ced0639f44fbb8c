pub mod Commands
pub mod Threads
