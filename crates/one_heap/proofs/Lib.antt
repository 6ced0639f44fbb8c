mod Only
mod Unblocked
mod Serving
mod Locks
mod Ending
