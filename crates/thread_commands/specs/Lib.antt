pub mod Runnable
pub mod Working
