pub mod Options
pub mod Settings
pub mod Command
pub mod Told
