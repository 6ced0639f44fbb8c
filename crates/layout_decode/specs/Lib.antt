pub mod Decode
pub mod Shows
