pub mod Attempts
pub mod Fragments
pub mod Growing
pub mod Jams
pub mod Sharing
