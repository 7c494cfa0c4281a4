pub mod Flaws
pub mod Seen
pub mod Touches
