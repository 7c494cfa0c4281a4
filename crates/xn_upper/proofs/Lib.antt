pub mod Bare
pub mod Whole
