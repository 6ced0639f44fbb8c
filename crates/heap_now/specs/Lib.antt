pub mod Calls
pub mod Words
pub mod Locks
pub mod Tagged
pub mod Callers
pub mod Reallocs
