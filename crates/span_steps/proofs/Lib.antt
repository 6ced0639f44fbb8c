pub mod Stores
pub mod NewSubsegment
pub mod Installs
pub mod RetiredSubsegment
pub mod Retires
pub mod HintBehind
