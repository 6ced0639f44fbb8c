pub mod Claims
pub mod InHandWords
pub mod SizeWords
pub mod BlockLaws
pub mod Undisturbed
pub mod Searches
