pub mod PickLemmas
pub mod DrawLemmas
