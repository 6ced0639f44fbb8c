pub mod BlockLemmas
pub mod Seats
