pub mod Listed
pub mod Planting
