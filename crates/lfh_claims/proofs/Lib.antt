pub mod Hands
pub mod Acting
pub mod Exchanges
pub mod Looking
pub mod Claiming
pub mod Stays
pub mod Known
