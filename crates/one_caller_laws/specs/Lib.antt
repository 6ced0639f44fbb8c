pub mod OneCall
pub mod Asked
pub mod Worked
pub mod Moving
pub mod UnderBack
pub mod MovingUnderBack
pub mod AllUnderBack
