pub mod TaggedLists
mod TagRead
pub mod Behind
pub mod States
mod Hearing
pub mod Words
mod Parts
mod Dropped
mod AtOnce
mod FrontFound
