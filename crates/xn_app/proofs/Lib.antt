pub mod Ends
pub mod Graphs
pub mod Lines
pub mod OneOutcome
pub mod Outcomes
pub mod Samples
pub mod Searches
