pub mod FaultLemmas
pub mod FieldLemmas
pub mod LineLemmas
pub mod OwnLemmas
pub mod StandLemmas
pub mod RoundLemmas
pub mod PrintedLemmas
pub mod WordLemmas
pub mod FoundLemmas
pub mod WalkLemmas
pub mod CutLemmas
pub mod GoodLemmas
pub mod ScriptLemmas
mod PrintedExample
