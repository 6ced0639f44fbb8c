pub mod Walk
pub mod Rows
pub mod OneRun
pub mod Images
pub mod Told
pub mod SubsegmentLemmas
pub mod Segments
pub mod TableLemmas
