pub mod Flat
pub mod Proved
