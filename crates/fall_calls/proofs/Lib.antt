mod HandedTwo
mod VsFirst
mod Resting
mod Falling
mod GapHeld
mod PlacedBehind
mod LateFalls
mod Fallen
-- a new span
mod NewSpanLaw
mod NewSpanHeld
