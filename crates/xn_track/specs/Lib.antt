pub mod Track
pub mod Cutting
pub mod Tidying
pub mod Relinking
pub mod Steps
pub mod Simplifying
pub mod Examples
