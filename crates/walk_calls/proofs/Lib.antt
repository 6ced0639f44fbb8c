mod Hearing
mod Looking
mod Chunks
mod Pages
mod Locking
mod Showing
mod Walking
mod Tables
