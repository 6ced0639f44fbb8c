pub mod Table
pub mod Effects
pub mod Sound
