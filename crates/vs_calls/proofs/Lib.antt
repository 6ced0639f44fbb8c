mod Held
mod Placed
mod TakenOut
pub mod Refused
pub mod Asked
mod Within
mod BothGiven
mod SpansUsed
mod SpanKept
pub mod InHand
pub mod Gap
pub mod Tries
pub mod Shapes
mod Backward
mod GapPlaced
pub mod TakenBack
mod Area
mod Ending
mod Closing
mod NewGap
mod NewPages
mod NewHeld
pub mod SpanMay
pub mod NewPlaced
mod NewGiven
mod SpanActs
