pub mod Calls
pub mod Cuts
pub mod Judged
pub mod ListedLoose
pub mod Routed
pub mod Search
pub mod Starting
