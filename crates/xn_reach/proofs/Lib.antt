pub mod Carried
pub mod Reached
