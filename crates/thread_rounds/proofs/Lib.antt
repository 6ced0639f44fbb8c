pub mod TryLemmas
pub mod Settings
