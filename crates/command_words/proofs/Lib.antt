pub mod OnceLemmas
pub mod WordLemmas
pub mod WalkLemmas
pub mod ReadLemmas
pub mod TakeLemmas
pub mod SpellLemmas
pub mod ParseLemmas
