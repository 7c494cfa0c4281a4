pub mod Given
pub mod Leaf
pub mod Least
pub mod Steps
pub mod Walk
