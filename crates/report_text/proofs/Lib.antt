pub mod ReplyLemmas
pub mod LayoutLemmas
pub mod BlockLemmas
pub mod Ranges
pub mod LargeLemmas
pub mod TallyLemmas
pub mod AnswerLemmas
