pub mod Lists
pub mod Reading
pub mod Beside
pub mod Swapping
pub mod Over
pub mod Keeping
