mod Read
pub mod Ends
