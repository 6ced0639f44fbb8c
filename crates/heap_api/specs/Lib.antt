pub mod AtLast
pub mod Locks
pub mod Reallocs
