pub mod Resolving
pub mod Rounds
