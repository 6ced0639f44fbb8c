pub mod Fronts
pub mod Ways
pub mod Late
pub mod Under
pub mod ByVs
pub mod GoingOn
pub mod Served
