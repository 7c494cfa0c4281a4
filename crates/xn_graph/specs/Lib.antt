pub mod Counts
pub mod Limits
pub mod Pairs
pub mod Refusals
pub mod Stars
