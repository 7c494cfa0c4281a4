pub mod Crossed
pub mod Entries
pub mod Laws
pub mod Pairs
