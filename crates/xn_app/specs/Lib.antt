pub mod Ends
pub mod Exits
pub mod Files
pub mod Outcome
pub mod Output
pub mod Progress
pub mod Status
pub mod Texts
