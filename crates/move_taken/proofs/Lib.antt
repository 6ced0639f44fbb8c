mod Hands
pub mod Blocks
mod GivenBack
mod Ending
mod ReadOn
pub mod Moving
mod Alone
pub mod Keeping
pub mod Before
pub mod Found
pub mod Shown
