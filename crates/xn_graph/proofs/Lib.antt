pub mod DartsOf
pub mod Ends
pub mod Pairs
pub mod Refused
pub mod StarArrays
