pub mod Core
pub mod Flat
pub mod Minor
pub mod Reduction
pub mod Theorem
