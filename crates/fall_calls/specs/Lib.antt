pub mod Both
pub mod Falls
