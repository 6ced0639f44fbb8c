pub mod Threads
pub mod Rounds
pub mod Headline
pub mod Worked
