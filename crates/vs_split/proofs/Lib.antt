pub mod FillLemmas
pub mod TableLemmas
pub mod Written
pub mod TileLemmas
pub mod TiledLemmas
pub mod RowLemmas
