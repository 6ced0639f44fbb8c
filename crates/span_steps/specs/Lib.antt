pub mod Stores
pub mod Installs
pub mod Retires
pub mod Laws
